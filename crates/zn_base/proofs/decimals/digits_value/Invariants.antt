use Rattle.std.proofs.Common.{◌≡◌, ◌<◌, ◌^◌, drop}
use Rattle.zn_base.specs.Decimals.{digits_value}
use Rattle.zn_base.proofs.decimals.digits_value.Given as goal

abbrev pub invariant-loop-byte : goal.invariant-loop-byte
invariant-loop-byte l = record {
  fits : l.number < 2 ^ 64;
  value : digits_value l.number (drop l.byte-index l.text) ≡ digits_value 0 l.text;
}
