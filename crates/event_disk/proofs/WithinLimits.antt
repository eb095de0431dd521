-- A removal or a replacement that is answered copies at most the carries of f + n, and answered breaks are at most the
-- ones of n less one, as the claim says of every sound catalogue. Assumes nothing.
use mathlib.Core.List.{List, []}
use mathlib.Core.Path.{◌∙◌, ◌≡◌, sym}
use Prim.Native.Nat.{ℕ}
use Rattle.event_disk.specs.Limit.{WithinCarries, WithinOnes}
use Rattle.manager.proofs.WholeList.{whole_list}
use Rattle.manager.specs.Call.{Call}
use Rattle.manager.specs.Conditions.{Reply}
use Rattle.manager.specs.Outcomes.{breaks_reply, perform}
use Rattle.manager.specs.WholeList.{Strikes}

pub within_carries : (c : Call) (cat : List ℕ) (i : ℕ) (d : List ℕ) (r : Reply) → Strikes i c
    → r ≡ (perform c cat d).reply → WithinCarries cat i r
within_carries c cat i d r struck same l f n h there e =
    whole_list.limit c cat d l i n f struck h there (sym same ∙ e)

pub within_ones : (cat : List ℕ) (i : ℕ) (r : Reply) → r ≡ breaks_reply i cat → WithinOnes cat i r
within_ones cat i r same l f n h there e = whole_list.breaks_limit cat [] l i n f h there (sym same ∙ e)
