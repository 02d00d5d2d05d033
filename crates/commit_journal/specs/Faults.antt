-- A bank's faults, as a store reports them.
use Rattle.zone_disk.specs.declared.fault.BankFault.{BankFault}
use Rattle.zone_disk.specs.declared.fault.BankFault.TheVariants as bank
use Rattle.commit_journal.specs.declared.fault.StoreFault.{StoreFault}
use Rattle.commit_journal.specs.declared.fault.StoreFault.TheVariants.{Memory, NotAStore, BadRecord, DiskFault, BankFull}

abbrev pub of_bank : BankFault → StoreFault
of_bank bank.Memory = Memory
of_bank (bank.NotAStore place) = NotAStore place
of_bank (bank.BadRecord place) = BadRecord place
of_bank bank.DiskFault = DiskFault
of_bank bank.BankFull = BankFull
