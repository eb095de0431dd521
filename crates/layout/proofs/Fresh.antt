-- The layout of a fresh disk is sound. Assumes nothing.
use mathlib.Core.List.{List}
use mathlib.Core.Logic.{◌⊎◌, inl, inr}
use mathlib.Core.Path.{◌∙◌, ◌≡◌, ap, subst, sym}
use Prim.Native.Nat.{◌%◌, ◌*◌, ◌+◌, ◌-◌, ◌<◌, ◌^◌, ◌≤◌, suc, zero, ℕ}
use native.Mathlib.Nat.{mod-eq_of_lt, mod_self, zero-mod}
use native.Mathlib.Omega.{arith}
use Rattle.layout.proofs.Allocating.{falling_thin, mod-digit}
use Rattle.layout.proofs.Lists.{each_imp}
use Rattle.layout.proofs.PiecesFrom.{digit-zero-or-one, pieces_from-cons, pieces_from_nil, pieces_from_skip}
use Rattle.layout.proofs.Ranges.{Position, above, below, in_range_above, in_range_below, in_range-halves}
use Rattle.layout.proofs.Ranges.{position, within}
use Rattle.layout.specs.Covering.{Falling, Rising}
use Rattle.layout.specs.Layout.{OnDisk, digit, file_pieces, fresh_layout, holds_block, in_range, pieces_from}
use Rattle.layout.specs.Lists.{Each, done, more, next, none, sum_of}
use Rattle.layout.specs.Sums.{SoundSums}
use Rattle.section.proofs.Multiples.{aligned_lower, multiple_sum}
use Rattle.section.specs.Sections.{section}
use Rattle.section.specs.declared.Section.{Section}

pub record Laid (c k n x : ℕ) (l : List Section) : Type 0 where
  pub disk : Each (OnDisk c) l
  pub held : (y : ℕ) → sum_of (holds_block y) l ≡ in_range y x (n % 2 ^ k)
  pub falling : Falling l
  pub lower : Each (λ (s : Section). s.height.value < k) l
  pub rising : Rising l
  pub from : Each (λ (s : Section). x ≤ s.first) l

hit_empty : (y x : ℕ) → 0 ≡ in_range y x 0
hit_empty y x = go (position y x 0)
  where
    go : Position y x 0 → 0 ≡ in_range y x 0
    go (within p q) = absurd (omega arith)
    go (below p) = sym (in_range_below y x 0 p)
    go (above p) = sym (in_range_above y x 0 p)

pub laid : (c k n x : ℕ) → x % 2 ^ k ≡ 0 → x + n % 2 ^ k ≤ c → Laid c k n x (pieces_from k n x)
laid c zero n x m p = subst (Laid c 0 n x) (sym (pieces_from_nil n x)) (record {
  disk = done;
  held = λ y. hit_empty y x ∙ sym (ap (in_range y x) e);
  falling = none;
  lower = done;
  rising = none;
  from = done;
})
  where
    e : n % 2 ^ 0 ≡ 0
    e = omega arith
laid c (suc k) n x m p =
    go (digit-zero-or-one k n) (λ q. laid c k n x mk q)
    (λ q. laid c k n (x + 2 ^ k) (multiple_sum (2 ^ k) x (2 ^ k) mk (mod_self (2 ^ k))) q)
  where
    mk : x % 2 ^ k ≡ 0
    mk = aligned_lower k (suc k) x (omega arith) m

    go : (digit k n ≡ 0) ⊎ (digit k n ≡ 1) → (x + n % 2 ^ k ≤ c → Laid c k n x (pieces_from k n x))
        → (x + 2 ^ k + n % 2 ^ k ≤ c → Laid c k n (x + 2 ^ k) (pieces_from k n (x + 2 ^ k)))
        → Laid c (suc k) n x (pieces_from (suc k) n x)
    go (inl e) a b =
        let eq : n % 2 ^ suc k ≡ n % 2 ^ k = mod-digit n k ∙ (ap (λ z. z * 2 ^ k + n % 2 ^ k) e ∙ omega arith) in
        let q = a (omega arith) in
        subst (Laid c (suc k) n x) (sym (pieces_from_skip k n x e)) (record {
          disk = q.disk;
          held = λ y. q.held y ∙ sym (ap (in_range y x) eq);
          falling = q.falling;
          lower = each_imp (λ s z. omega arith) q.lower;
          rising = q.rising;
          from = q.from;
        })
    go (inr e) a b =
        let eq : n % 2 ^ suc k ≡ 2 ^ k + n % 2 ^ k =
        mod-digit n k ∙ (ap (λ z. z * 2 ^ k + n % 2 ^ k) e ∙ omega arith) in
        let q = b (omega arith) in
        let w : x + 2 ^ k ≤ c = omega arith in
        subst (Laid c (suc k) n x) (sym (pieces_from-cons k n x e)) (record {
          disk = more {a = section x k} (record { aligned = mk; within = w }) q.disk;
          held =
              λ y. ap (λ z. in_range y x (2 ^ k) + z) (q.held y)
              ∙ (sym (in_range-halves y x (2 ^ k) (n % 2 ^ k)) ∙ sym (ap (in_range y x) eq));
          falling = next {a = section x k} q.lower q.falling;
          lower = more {a = section x k} (omega arith) (each_imp (λ s z. omega arith) q.lower);
          rising = next {a = section x k} (each_imp (λ s z. omega arith) q.from) q.rising;
          from = more {a = section x k} (omega arith) (each_imp (λ s z. omega arith) q.from);
        })

pub fresh_sound : (K c : ℕ) → 1 ≤ c → c < 2 ^ K → c ≤ 2 ^ (K - 1) → SoundSums K (fresh_layout K c)
unfolding fresh_layout file_pieces
fresh_sound K c low top cap =
    let e : c % 2 ^ K ≡ c = mod-eq_of_lt top in
    let q = laid c K c 0 (zero-mod (2 ^ K)) (omega arith) in
    record {
      some = low;
      top = top;
      cap = cap;
      disk = q.disk;
      covers = λ y. q.held y ∙ ap (in_range y 0) e;
      rising = q.rising;
      thin = falling_thin q.falling;
      shapes = done;
      ids = none;
      few = omega arith;
    }
