-- The items of a list, each of which has P: one of them, one replaced, the first ones, and equal ones. Assumes
-- nothing.
use mathlib.Core.List.{List}
use mathlib.Core.Path.{subst}
use Prim.Native.Nat.{◌<◌, ◌≤◌, suc, zero, ℕ}
use native.Mathlib.Omega.{arith}
use lib.ListN.{get_or, length, replicate, set, take}
use lib.Seq.{get_or-take, length-take-le}
use Rattle.layout.specs.Lists.{Each, done, more}

pub each_get : {A : Type 0} {P : A → Type 0} {l : List A} (i : ℕ) (d : A) → Each P l → i < length l → P (get_or l i d)
each_get i d done l = absurd (omega arith)
each_get zero d (more p e) l = p
each_get (suc i) d (more p e) l = each_get i d e (omega arith)

pub each_set : {A : Type 0} {P : A → Type 0} {l : List A} (i : ℕ) (a : A) → Each P l → P a → Each P (set l i a)
each_set i a done q = done
each_set zero a (more p e) q = more q e
each_set (suc i) a (more p e) q = more p (each_set i a e q)

-- one of the first m items, each of which has P
pub each_taken : {A : Type 0} {P : A → Type 0} (l : List A) (m i : ℕ) (d : A) → m ≤ length l → Each P (take m l)
    → i < m → P (get_or l i d)
each_taken {P = P} l m i d h e lt =
    subst P (get_or-take m l i d lt) (each_get {P = P} i d e (omega (arith, length-take-le m l h)))

pub each_take : {A : Type 0} {P : A → Type 0} (n : ℕ) {l : List A} → Each P l → Each P (take n l)
each_take zero e = done
each_take (suc n) done = done
each_take (suc n) (more p e) = more p (each_take n e)

pub each_replicate : {A : Type 0} {P : A → Type 0} (n : ℕ) (a : A) → P a → Each P (replicate n a)
each_replicate zero a p = done
each_replicate (suc n) a p = more p (each_replicate n a p)
