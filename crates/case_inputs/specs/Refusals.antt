-- Which refusals a call gives, in the order of its checks; and the manager's conditions of it. Definitions only.
use Rattle.std.specs.Prelude.{List, [], ◌∷◌, map, ℕ}
use Rattle.catalogue.specs.Version.{version_of}
use Rattle.manager.specs.Conditions.{Condition, add_conditions, breaks_conditions, check_conditions}
use Rattle.manager.specs.Conditions.{format_conditions, free_conditions, read_conditions}
use Rattle.manager.specs.Conditions.{remove_conditions, replace_conditions, which_conditions}
use Rattle.case_inputs.specs.declared.Call.{Call}
use Rattle.case_inputs.specs.declared.Call.TheVariants as Call·

-- the numbers of a call's refusals by its checks
abbrev pub checks_of : Call → List ℕ
checks_of Call·.Format = 1 ∷ 2 ∷ []
checks_of Call·.Add = 1 ∷ 3 ∷ 4 ∷ 5 ∷ 7 ∷ 8 ∷ 10 ∷ 11 ∷ []
checks_of Call·.Remove = 1 ∷ 3 ∷ 4 ∷ 5 ∷ 6 ∷ []
checks_of Call·.Replace = 1 ∷ 3 ∷ 4 ∷ 5 ∷ 6 ∷ 8 ∷ 12 ∷ 13 ∷ 11 ∷ []
checks_of Call·.Read = 1 ∷ 3 ∷ 4 ∷ 5 ∷ 6 ∷ 8 ∷ 9 ∷ []
checks_of Call·.Breaks = 1 ∷ 3 ∷ 5 ∷ 6 ∷ []
checks_of Call·.Which = 1 ∷ 3 ∷ 8 ∷ 14 ∷ []
checks_of Call·.Free = 1 ∷ 3 ∷ []
checks_of Call·.Check = 1 ∷ 3 ∷ 4 ∷ []

-- the conditions of a call with the id i, the first page or the number of blocks p, the content, output or list b, the
-- catalogue and the disk
abbrev pub conditions_of : Call → ℕ → ℕ → List ℕ → List ℕ → List ℕ → List Condition
conditions_of Call·.Format i p b cat d = format_conditions (version_of cat) cat d
conditions_of Call·.Add i p b cat d = add_conditions (version_of cat) i b cat d
conditions_of Call·.Remove i p b cat d = remove_conditions (version_of cat) i cat d
conditions_of Call·.Replace i p b cat d = replace_conditions (version_of cat) i b cat d
conditions_of Call·.Read i p b cat d = read_conditions (version_of cat) i p b cat d
conditions_of Call·.Breaks i p b cat d = breaks_conditions (version_of cat) i cat
conditions_of Call·.Which i p b cat d = which_conditions (version_of cat) p b cat
conditions_of Call·.Free i p b cat d = free_conditions (version_of cat) cat
conditions_of Call·.Check i p b cat d = check_conditions (version_of cat) cat d

-- their numbers in their order
abbrev pub numbers_in : List Condition → List ℕ
numbers_in cs = map (λ (c : Condition). c.number) cs
