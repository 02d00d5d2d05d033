-- What the definition says of some patterns.
use Rattle.std.proofs.Common.{◌≡◌, true, false, codes, refl}
use Rattle.zn_base.specs.Glob.{glob}

star : glob (codes "/dev/d*") (codes "/dev/dsk") ≡ true
unfolding glob
star = refl

star_stops_at_a_slash : glob (codes "/dev/d*") (codes "/dev/d/a") ≡ false
unfolding glob
star_stops_at_a_slash = refl

star_of_nothing : glob (codes "*a*b*") (codes "ab") ≡ true
unfolding glob
star_of_nothing = refl

not_listed : glob (codes "[!a]") (codes "b") ≡ true
unfolding glob
not_listed = refl

never_a_slash : glob (codes "[!a]?") (codes "//") ≡ false
unfolding glob
never_a_slash = refl

range_and_items : glob (codes "[a-cx-][a-cx-][a-cx-]") (codes "cx-") ≡ true
unfolding glob
range_and_items = refl

two_ranges : glob (codes "[a-c-e]") (codes "d") ≡ false
unfolding glob
two_ranges = refl

bracket_of_nothing : glob (codes "[]a]") (codes "aa]") ≡ false
unfolding glob
bracket_of_nothing = refl

no_bracket : glob (codes "a[!b") (codes "a[!b") ≡ true
unfolding glob
no_bracket = refl
