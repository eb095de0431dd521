-- The text for what was read, up to one byte more than any catalogue has, is that of the whole input. Assumes nothing.
use Rattle.std.proofs.Common.{◌≡◌, ℕ, ◌+◌, ◌<◌, ◌≤◌, List, [], ◌++◌, length, take, append-nil, length-take-le}
use Rattle.std.proofs.Common.{None, Some, Ok, Err, IfSome, OnOk, Option, Result, arith, sym, ap, subst, ◌∙◌}
use Rattle.std.proofs.Math.Nat.{eq-or-lt_of_le}
use Rattle.std.specs.Io.KnownBytes.{Appends, Consumes, IsAtEnd}
use mathlib.Core.Logic.{inl, inr}
use lib.Seq.{take_at}
use Rattle.catalogue.specs.Version.{version2}
use Rattle.manager.specs.Printing.{printed}
use Rattle.print_catalogue.proofs.InputText.{text_of_start}

module _ (room : List ℕ) (n : ℕ) (within : n ≤ length room) (size : length room ≡ version2.bytes + 1) where
  text_of_read : (input rest : List ℕ) → (n < length room → rest ≡ []) → input ≡ take n room ++ rest
      → printed (take n room) ≡ printed input
  text_of_read input rest end split =
      elim (eq-or-lt_of_le within) [
        | inl full ↦
            let start = sym (ap (take n) split ∙ take_at (take n room) rest n (length-take-le n room within)) in
            ap printed start ∙ text_of_start input n (omega (arith, full, size))
        | inr short ↦
            ap printed (sym (split ∙ ap (λ r. take n room ++ r) (end short) ∙ append-nil (take n room)))
      ]

  -- what was written for the part that was read was written for all that there was to read
  pub written_for_all : (old new was is : Option (List ℕ)) (text : List ℕ) → Consumes old new (take n room)
      → (n < length room → IsAtEnd new) → text ≡ printed (take n room) → Appends was is text
      → IfSome old (λ input. Appends was is (printed input))
  written_for_all None new was is text read end same wrote = tt
  written_for_all (Some input) None was is text read end same wrote = absurd read
  written_for_all (Some input) (Some rest) was is text read end same wrote =
      subst (Appends was is) (same ∙ text_of_read input rest end read) wrote

pub on_ok : {T E P Q : Type 0} (r : Result T E) → (P → Q) → OnOk r P → OnOk r Q
on_ok (Ok x) f p = f p
on_ok (Err e) f p = tt
