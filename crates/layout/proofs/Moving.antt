-- What a move keeps, stated once: all that lies inside the section of height h at b goes to the same distance
-- inside the one at v, which no piece meets. Independent of how the two were chosen. Assumes nothing.
use mathlib.Core.Bool.{false}
use mathlib.Core.List.{List, map}
use mathlib.Core.Logic.{inl, inr}
use mathlib.Core.Path.{◌∙◌, ◌≡◌, ap, sym}
use Prim.Native.Nat.{◌+◌, ◌<◌, ◌^◌, ◌≤◌, ℕ}
use native.Mathlib.Omega.{arith}
use Rattle.layout.proofs.Lists.{each_imp, sum_cong, sum-map}
use Rattle.layout.proofs.Ranges.{in_range_above, in_range_below, in_range_carried}
use Rattle.layout.proofs.Swaps.{swap, swap-disk, swap-first, swap_off, swap-second, swap-swap}
use Rattle.layout.specs.Layout.{holds_block, in_range}
use Rattle.layout.specs.Lists.{Each, sum_of}
use Rattle.layout.specs.Moves.{Movable, SameOrApart, left, moving, right, same}
use Rattle.section.proofs.Answers.{inside_iff}
use Rattle.section.proofs.Moves.{moved_apart_stays, moved-height, moved_inside}
use Rattle.section.specs.Nesting.{Placed, after, before, inside}
use Rattle.section.specs.Sections.{Apart, end_of, is_inside, length_of, section}
use Rattle.section.specs.declared.Section.{Section}

-- a section that is placed against b and not inside it holds no block of b
pub placed_off : (s b : Section) → Placed s.first (length_of s) b.first (length_of b) → is_inside s b ≡ false
    → (x : ℕ) → b.first ≤ x → x < end_of b → holds_block x s ≡ 0
placed_off s b (inside p q) e x lo hi =
    let y = (inside_iff s b).1 (p, q) in absurd (let z : ◌≡◌ {A = ℕ} 0 1 = cc in omega arith)
placed_off s b (before q) e x lo hi = in_range_above x s.first (length_of s) (omega arith)
placed_off s b (after q) e x lo hi = in_range_below x s.first (length_of s) (omega arith)

module _ (h b v : ℕ) where
  -- its blocks go where the swap takes them
  abbrev pub Carried : Section → Type 0
  Carried s = (i : ℕ) → i < length_of s → (moving h b v s).first + i ≡ swap b v (2 ^ h) (s.first + i)

  pub carry : (s : Section) → Movable h b v s → Carried s
  carry s (c, o) i p = go c
    where
      off_one : (c d : ℕ) → Apart s.first (length_of s) c d → Apart (s.first + i) 1 c d
      off_one c d (inl q) = inl (omega arith)
      off_one c d (inr q) = inr (omega arith)

      stay : Apart s.first (length_of s) b (2 ^ h) → (moving h b v s).first + i ≡ swap b v (2 ^ h) (s.first + i)
      stay q =
          ap (λ (t : Section). t.first + i) (moved_apart_stays (section b h) (section v h) s q)
          ∙ sym (swap_off b v (2 ^ h) (s.first + i) (off_one b (2 ^ h) q) (off_one v (2 ^ h) o))

      go : Placed s.first (length_of s) b (2 ^ h) → (moving h b v s).first + i ≡ swap b v (2 ^ h) (s.first + i)
      go (inside q r) =
          ap (λ (t : Section). t.first + i)
          (moved_inside (section b h) (section v h) s ((inside_iff s (section b h)).1 (q, r)))
          ∙ omega (arith, swap-first b v (2 ^ h) (s.first + i) (omega arith) (omega arith))
      go (before q) = stay (inl q)
      go (after q) = stay (inr q)

  module _ (c : ℕ) (sep : SameOrApart b v (2 ^ h)) (bc : b + 2 ^ h ≤ c) (vc : v + 2 ^ h ≤ c) {others : List Section}
      (all : Each (Movable h b v) others) where
    -- a block is held after the move as the block that came there was before it
    pub move_holds : (x : ℕ)
        → sum_of (holds_block x) (map (moving h b v) others) ≡ sum_of (holds_block (swap b v (2 ^ h) x)) others
    move_holds x =
        sum-map (holds_block x) (moving h b v) others
        ∙ sum_cong (λ s. holds_block x (moving h b v s)) (λ s. holds_block (swap b v (2 ^ h) x) s)
        (each_imp (λ s p. one s (carry s p)) all)
      where
        one : (s : Section) → Carried s → holds_block x (moving h b v s) ≡ holds_block (swap b v (2 ^ h) x) s
        one s k =
            ap (λ n. in_range x (moving h b v s).first (2 ^ n)) (moved-height (section b h) (section v h) s)
            ∙ in_range_carried (swap b v (2 ^ h)) (swap-swap b v (2 ^ h) sep) s.first (moving h b v s).first
            (length_of s) k x

    -- the blocks from v on were in no piece, and those from b on now are in none
    pub move_covers : ((x : ℕ) → in_range x v (2 ^ h) + sum_of (holds_block x) others ≡ in_range x 0 c)
        → (x : ℕ) → in_range x b (2 ^ h) + sum_of (holds_block x) (map (moving h b v) others) ≡ in_range x 0 c
    move_covers w x =
        omega (arith, move_holds x, comes x, w (swap b v (2 ^ h) x), swap-disk b v (2 ^ h) c sep bc vc x)
      where
        comes : (x : ℕ) → in_range x b (2 ^ h) ≡ in_range (swap b v (2 ^ h) x) v (2 ^ h)
        comes = in_range_carried (swap b v (2 ^ h)) (swap-swap b v (2 ^ h) sep) v b (2 ^ h) (λ i p. go i p sep)
          where
            go : (i : ℕ) → i < 2 ^ h → SameOrApart b v (2 ^ h) → b + i ≡ swap b v (2 ^ h) (v + i)
            go i p (same e) = omega (arith, swap-first b v (2 ^ h) (v + i) (omega arith) (omega arith))
            go i p (left e) =
                omega (arith, swap-second b v (2 ^ h) (v + i) (inr (omega arith)) (omega arith) (omega arith))
            go i p (right e) =
                omega (arith, swap-second b v (2 ^ h) (v + i) (inl (omega arith)) (omega arith) (omega arith))
