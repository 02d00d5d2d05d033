-- The privileges of privileges(7) that this profile knows, with the class of each. A privilege's number is its
-- place here. A zone has the required and the default ones unless it says otherwise; it cannot run without the
-- required ones, and may never have the prohibited ones.
use Rattle.std.specs.Prelude.{ℕ, List, [], ◌∷◌, Bool, true, false, Option, Some, None, position, codes, slice_get}
use Rattle.std.specs.Str.{bytes_eq}
use Rattle.priv_sets.specs.declared.table.Class.{Class}
use Rattle.priv_sets.specs.declared.table.Class.TheVariants.{Required, Default, Optional, Prohibited}

pub record Row : Type 0 where
  pub name : List ℕ
  pub class : Class

abbrev pub row : List ℕ → Class → Row
row name class = record { name = name; class = class }

unfoldable pub privileges : List Row
privileges =
    row (codes "contract_event") Default ∷
    row (codes "contract_identity") Default ∷
    row (codes "contract_observer") Default ∷
    row (codes "cpc_cpu") Optional ∷
    row (codes "dtrace_kernel") Prohibited ∷
    row (codes "dtrace_proc") Optional ∷
    row (codes "dtrace_user") Optional ∷
    row (codes "file_chown") Default ∷
    row (codes "file_chown_self") Default ∷
    row (codes "file_dac_execute") Default ∷
    row (codes "file_dac_read") Default ∷
    row (codes "file_dac_search") Default ∷
    row (codes "file_dac_write") Default ∷
    row (codes "file_link_any") Default ∷
    row (codes "file_owner") Default ∷
    row (codes "file_setid") Default ∷
    row (codes "ipc_dac_read") Default ∷
    row (codes "ipc_dac_write") Default ∷
    row (codes "ipc_owner") Default ∷
    row (codes "net_icmpaccess") Default ∷
    row (codes "net_privaddr") Default ∷
    row (codes "net_rawaccess") Optional ∷
    row (codes "proc_audit") Default ∷
    row (codes "proc_chroot") Default ∷
    row (codes "proc_clock_highres") Optional ∷
    row (codes "proc_exec") Required ∷
    row (codes "proc_fork") Required ∷
    row (codes "proc_info") Default ∷
    row (codes "proc_lock_memory") Optional ∷
    row (codes "proc_owner") Default ∷
    row (codes "proc_session") Default ∷
    row (codes "proc_setid") Default ∷
    row (codes "proc_taskid") Default ∷
    row (codes "proc_zone") Prohibited ∷
    row (codes "sys_acct") Default ∷
    row (codes "sys_admin") Default ∷
    row (codes "sys_config") Prohibited ∷
    row (codes "sys_devices") Prohibited ∷
    row (codes "sys_mount") Required ∷
    row (codes "sys_time") Optional ∷ []

abbrev pub same_class : Class → Class → Bool
same_class Required Required = true
same_class Default Default = true
same_class Optional Optional = true
same_class Prohibited Prohibited = true
same_class class other = false

abbrev pub has_class : Class → Option Row → Bool
has_class class (Some r) = same_class r.class class
has_class class None = false

-- whether the privilege of a number is of a class
unfoldable pub is_of : Class → ℕ → Bool
is_of class n = has_class class (slice_get privileges n)

-- a privilege's number
unfoldable pub number_of : List ℕ → Option ℕ
number_of name = position (λ r. bytes_eq r.name name) privileges

abbrev pub name_in : Option Row → List ℕ
name_in (Some r) = r.name
name_in None = []

unfoldable pub name_of : ℕ → List ℕ
name_of n = name_in (slice_get privileges n)
