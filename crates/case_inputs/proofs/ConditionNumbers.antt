-- A call's refusals and their order are those of the manager's conditions of it, on a sound catalogue. Assumes nothing.
use mathlib.Core.List.{List}
use mathlib.Core.Path.{◌≡◌, refl}
use Prim.Native.Nat.{ℕ}
use Rattle.catalogue.specs.Reading.{read_catalogue, sound}
use Rattle.catalogue.specs.Version.{version_of}
use Rattle.layout.specs.Layout.{Layout}
use Rattle.case_inputs.specs.Refusals.{checks_of, conditions_of, numbers_in}
use Rattle.case_inputs.specs.declared.Call.{Call}
use Rattle.case_inputs.specs.declared.Call.TheVariants as Call·

pub condition_numbers : (call : Call) (i p : ℕ) (b cat d : List ℕ) (l : Layout)
    → read_catalogue (version_of cat) cat ≡ sound l → numbers_in (conditions_of call i p b cat d) ≡ checks_of call
condition_numbers Call·.Format i p b cat d l e = refl
condition_numbers Call·.Add i p b cat d l e = rw e
condition_numbers Call·.Remove i p b cat d l e = rw e
condition_numbers Call·.Replace i p b cat d l e = rw e
condition_numbers Call·.Read i p b cat d l e = rw e
condition_numbers Call·.Breaks i p b cat d l e = rw e
condition_numbers Call·.Which i p b cat d l e = rw e
condition_numbers Call·.Free i p b cat d l e = rw e
condition_numbers Call·.Check i p b cat d l e = rw e
