-- Pieces noted one after another by their first blocks and masks. Assumes nothing.
use mathlib.Core.Bool.{true}
use mathlib.Core.List.{List, [], ◌++◌, ◌∷◌, append_assoc}
use mathlib.Core.Path.{◌∙◌, ◌≡◌, ap, refl, subst, sym}
use Prim.Native.Nat.{◌+◌, ◌<◌, ◌≤◌, suc, zero, ℕ}
use native.Mathlib.Decide.{ℕ_discrete}
use native.Mathlib.Numerals.{add-one}
use native.Mathlib.Omega.{arith}
use lib.ListN.{get_or, get_or-replicate, length, length-append, length-replicate, length-set, replicate, set, take}
use lib.Seq.{get_or_at, get_or-set_other, get_or-set_same, length-take-le, take-suc}
use Rattle.catalogue.specs.Reading.{every, sound_piece}
use Rattle.section.proofs.Answers.{on_disk_iff}
use Rattle.section.proofs.Booleans.{and_true}
use Rattle.section.specs.Limits.{greatest_disk, height_count}
use Rattle.section.specs.Sections.{Spans, is_aligned, is_on_disk}
use Rattle.section.specs.declared.Section.{Section}
use Rattle.soundness.proofs.Points.{blank, every_at}
use Rattle.soundness.specs.Sharing.{Ends, Noted, far, noted_places}

far_spans : Spans far greatest_disk 0
unfolding is_aligned
far_spans = record { first = refl; mask = refl; aligned = refl }

-- before the first piece: the block after the greatest disk everywhere
pub noted-none : Noted [] (replicate noted_places greatest_disk) (replicate noted_places 0)
noted-none = record {
  first_places = length-replicate {A = ℕ} noted_places greatest_disk;
  mask_places = length-replicate {A = ℕ} noted_places 0;
  spans = λ k h. rw (
    get_or-replicate {A = ℕ} noted_places k greatest_disk 0 h,
    get_or-replicate {A = ℕ} noted_places k 0 0 h,
  ) far_spans;
}

push_other : (l : List Section) (s d : Section) (k : ℕ) → (k ≡ length l → ⊥)
    → get_or (l ++ (s ∷ [])) k d ≡ get_or l k d
push_other [] s d zero n = absurd (n refl)
push_other [] s d (suc k) n = refl
push_other (a ∷ l) s d zero n = refl
push_other (a ∷ l) s d (suc k) n = push_other l s d k (λ e. n (ap suc e))

-- one more piece, at the place after the last
noted_more : (l : List Section) (at : ℕ) (firsts masks : List ℕ) (s : Section) (a n : ℕ) → length l ≡ at
    → at < noted_places
    → Noted l firsts masks
    → Spans s a n
    → Noted (l ++ (s ∷ [])) (set firsts at a) (set masks at n)
noted_more l at firsts masks s a n exact q h p = record {
  first_places = simp length-set h.first_places;
  mask_places = simp length-set h.mask_places;
  spans = λ k r. elim (ℕ_discrete k at) [
    | yes e ↦ subst
        (λ z. Spans (get_or (l ++ (s ∷ [])) z far) (get_or (set firsts at a) z 0) (get_or (set masks at n) z 0))
        (sym e)
        (rw (
          get_or_at l s [] far at exact,
          get_or-set_same firsts at a 0 (omega (arith, h.first_places)),
          get_or-set_same masks at n 0 (omega (arith, h.mask_places)),
        ) p)
    | no e ↦ rw (
      push_other l s far k (λ x. e (x ∙ exact)),
      get_or-set_other firsts at k a 0 e,
      get_or-set_other masks at k n 0 e,
    ) (h.spans k r)
  ];
}

-- the next piece of an array, where the pieces of l and its first i are noted
pub noted-next : (l items : List Section) (at i : ℕ) (firsts masks : List ℕ) (a n : ℕ) → length l ≡ at
    → i < length items
    → at + i < noted_places
    → Noted (l ++ take i items) firsts masks
    → Spans (get_or items i blank) a n
    → Noted (l ++ take (i + 1) items) (set firsts (at + i) a) (set masks (at + i) n)
noted-next l items at i firsts masks a n exact q r h p =
    subst (λ z. Noted z (set firsts (at + i) a) (set masks (at + i) n)) (sym next)
    (noted_more (l ++ take i items) (at + i) firsts masks (get_or items i blank) a n places r h p)
  where
    next : l ++ take (i + 1) items ≡ (l ++ take i items) ++ (get_or items i blank ∷ [])
    next =
        ap (λ z. l ++ z) (ap (λ z. take z items) (add-one i) ∙ take-suc items i blank q)
        ∙ sym (append_assoc l (take i items) (get_or items i blank ∷ []))

    places : length (l ++ take i items) ≡ at + i
    places = length-append l (take i items) ∙ omega (arith, exact, length-take-le i items (omega arith))

-- the sections of a disk end where the greatest disk does or before
pub disk_ends : (c : ℕ) (l : List Section) → c ≤ greatest_disk → every (sound_piece height_count c) l ≡ true → Ends l
disk_ends c l h e k q =
    let w = and_true (is_on_disk c (get_or l k far)) _ (every_at (sound_piece height_count c) l far e k q) in
    omega (arith, ((on_disk_iff c (get_or l k far)).0 w.0).1)
