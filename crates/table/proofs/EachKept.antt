-- What holds of each item holds of each of what is left when some are dropped, where one more is put among them, and
-- where some are copied over others. Assumes nothing.
use Rattle.std.proofs.Common.{◌+◌, ◌≤◌, ℕ, List, drop, length, subst, sym, take}
use Rattle.std.proofs.Math.Seq.{paste}
use Rattle.std.proofs.lemmas.List.{take-append-drop}
use Rattle.std.proofs.lemmas.List.Edits.{drop-paste, take-paste}
use Rattle.layout.proofs.Lists.{each_append, each_right}
use Rattle.layout.specs.Lists.{Each, more}
use Rattle.piece_lists.proofs.EachItem.{each_take}
use Rattle.piece_lists.specs.Places.{with_at}

module _ {A : Type 0} {P : A → Type 0} where
  pub each_drop : (n : ℕ) {l : List A} → Each P l → Each P (drop n l)
  each_drop n {l} e = each_right (take n l) (drop n l) (subst (Each P) (sym (take-append-drop n l)) e)

  pub each_with : (i : ℕ) (a : A) {l : List A} → P a → Each P l → Each P (with_at i a l)
  unfolding with_at
  each_with i a p e = each_append (each_take i e) (more p (each_drop i e))

  pub each_paste : (at : ℕ) (n : ℕ) {l s : List A} → at ≤ length l → n ≤ length s → Each P l → Each P s
      → Each P (paste l at s n)
  each_paste at n {l} {s} within long e f =
      let r : List A = paste l at s n in
      let front : Each P (take (at + n) r) =
      subst (Each P) (sym (take-paste l at s n within long)) (each_append (each_take at e) (each_take n f)) in
      let back : Each P (drop (at + n) r) =
      subst (Each P) (sym (drop-paste l at s n within long)) (each_drop (at + n) e) in
      subst (Each P) (take-append-drop (at + n) r) (each_append front back)
