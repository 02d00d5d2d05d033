-- What the definitions say of some texts.
use Rattle.std.proofs.Common.{◌≡◌, ℕ, List, [], ◌∷◌, None, Some, Ok, Err, Result, codes, length, map, refl}
use Rattle.priv_sets.specs.declared.limit.PrivFault.{PrivFault}
use Rattle.priv_sets.specs.declared.limit.PrivFault.TheVariants.{PrivWord, PrivRequired, PrivProhibited}
use Rattle.priv_sets.specs.declared.table.Class.TheVariants.{Required}
use Rattle.priv_sets.specs.declared.table.TheConstants.{PROC_EXEC, PROC_FORK, SYS_MOUNT}
use Rattle.priv_sets.specs.Table.{is_of, name_of, number_of, privileges}
use Rattle.priv_sets.specs.Sets.{all_of, both, default_set, everything, has, only, print_of, set_of, union, without}
use Rattle.priv_sets.specs.Limit.{judged, limit_of, named, rule_of, set_of_words, words_from}

numbers : number_of (codes "proc_fork") ≡ Some 26
unfolding number_of privileges
numbers = refl

calls : map name_of (PROC_EXEC ∷ PROC_FORK ∷ SYS_MOUNT ∷ []) ≡ codes "proc_exec" ∷ codes "proc_fork" ∷ codes "sys_mount" ∷ []
unfolding name_of privileges
calls = refl

no_number : number_of (codes "proc") ≡ None
unfolding number_of privileges
no_number = refl

abbrev limit : List ℕ → Result (List ℕ) PrivFault
limit text = limit_of text

default_count : length default_set ≡ 29
unfolding default_set union all_of has set_of is_of privileges
default_count = refl

empty : limit [] ≡ Ok default_set
unfolding limit_of judged set_of_words words_from rule_of named default_set everything all_of both has only set_of union without is_of number_of privileges
empty = refl

required : limit (codes "default,!proc_fork") ≡ Err (PrivRequired 26)
unfolding limit_of judged set_of_words words_from rule_of named default_set everything all_of both has only set_of union without is_of number_of privileges
required = refl

unknown : limit (codes "default,zone") ≡ Err (PrivWord 8)
unfolding limit_of judged set_of_words words_from rule_of named default_set everything all_of both has only set_of union without is_of number_of privileges
unknown = refl

prohibited : limit (codes "all") ≡ Err (PrivProhibited 4)
unfolding limit_of judged set_of_words words_from rule_of named default_set everything all_of both has only set_of union without is_of number_of privileges
prohibited = refl

nothing_left : limit (codes "proc_audit,!proc_audit") ≡ Err (PrivRequired 25)
unfolding limit_of judged set_of_words words_from rule_of named default_set everything all_of both has only set_of union without is_of number_of privileges
nothing_left = refl

order_counts : limit (codes "!proc_audit,proc_audit,proc_exec,proc_fork,sys_mount") ≡ Ok (22 ∷ 25 ∷ 26 ∷ 38 ∷ [])
unfolding limit_of judged set_of_words words_from rule_of named default_set everything all_of both has only set_of union without is_of number_of privileges
order_counts = refl

default_in_second_place : limit (codes "!proc_audit,default,-proc_fork") ≡ Err (PrivWord 12)
unfolding limit_of judged set_of_words words_from rule_of named default_set everything all_of both has only set_of union without is_of number_of privileges
default_in_second_place = refl

printed : print_of (all_of Required) ≡ codes "proc_exec,proc_fork,sys_mount"
unfolding print_of all_of set_of is_of name_of privileges
printed = refl
