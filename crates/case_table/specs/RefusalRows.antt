-- What a row of the table of refusals is, and how it is computed: buffers as they are lent, whatever their lengths,
-- and calls that are each refused on them, format among the calls. Definitions only.
use Rattle.std.specs.Prelude.{List, [], map, ℕ}
use Rattle.case_table.specs.CaseRun.{performed}
use Rattle.manager.specs.Call.{Call, add, breaks, check, free, read, remove, replace, which}
use Rattle.manager.specs.Conditions.{Outcome, outcome, refused}
use Rattle.manager.specs.Outcomes.{format_outcome}

-- the nine calls
pub data AnyCall : Type 0 where
  format : AnyCall
  listed : Call → AnyCall

-- a call, and the number that it is refused with
pub record Refusal : Type 0 where
  pub call : AnyCall
  pub number : ℕ

-- a catalogue and a disk, and calls that are each made on these very buffers
pub record RefusalRow : Type 0 where
  pub catalogue : List ℕ
  pub disk : List ℕ
  pub refusals : List Refusal

-- the caller's output buffer
abbrev pub output_lent : AnyCall → List ℕ
output_lent format = []
output_lent (listed (add i bs)) = []
output_lent (listed (remove i)) = []
output_lent (listed (replace i bs)) = []
output_lent (listed (read i p o)) = o
output_lent (listed (breaks i)) = []
output_lent (listed (which n o)) = o
output_lent (listed free) = []
output_lent (listed check) = []

-- the outcome of a call
abbrev pub outcome_of : AnyCall → List ℕ → List ℕ → Outcome
outcome_of format cat d = format_outcome cat d
outcome_of (listed c) cat d = performed c cat d

-- a row, computed
abbrev pub outcomes : RefusalRow → List Outcome
outcomes r = map (λ (x : Refusal). outcome_of x.call r.catalogue r.disk) r.refusals

-- what is expected of it: each number, and all buffers as they were
abbrev pub refused_all : RefusalRow → List Outcome
refused_all r =
    map (λ (x : Refusal). outcome (refused x.number) r.catalogue r.disk (output_lent x.call)) r.refusals

-- ---- how rows are written

-- a format that is refused
abbrev pub format_gives : ℕ → Refusal
format_gives n = record { call = format; number = n }

-- another call that is refused
abbrev pub gives : Call → ℕ → Refusal
gives c n = record { call = listed c; number = n }
