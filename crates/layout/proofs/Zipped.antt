-- Two lists that agree place by place, and maps of maps. Assumes nothing.
use mathlib.Core.List.{List, [], ◌++◌, ◌∷◌, map}
use mathlib.Core.Path.{◌≡◌, ap, ap₂, refl}
use Rattle.layout.specs.Lists.{Zipped, both, ends}

pub zipped_append : {A B : Type 0} {R : A → B → Type 0} {l l' : List A} {m m' : List B} → Zipped R l m
    → Zipped R l' m' → Zipped R (l ++ l') (m ++ m')
zipped_append ends q = q
zipped_append (both p b) q = both p (zipped_append b q)

pub zipped_trans : {A B C : Type 0} {R : A → B → Type 0} {S : B → C → Type 0} {T : A → C → Type 0}
    → ((a : A) (b : B) (c : C) → R a b → S b c → T a c)
    → {l : List A} {m : List B} {k : List C} → Zipped R l m → Zipped S m k → Zipped T l k
zipped_trans f ends ends = ends
zipped_trans f (both {a = a} {b = b} p x) (both {b = c} q y) = both (f a b c p q) (zipped_trans f x y)

pub zipped_refl : {A : Type 0} {R : A → A → Type 0} → ((a : A) → R a a) → (l : List A) → Zipped R l l
zipped_refl f [] = ends
zipped_refl f (a ∷ l) = both (f a) (zipped_refl f l)

pub map-map : {A B C : Type 0} (f : B → C) (g : A → B) (h : A → C) → ((a : A) → h a ≡ f (g a)) → (l : List A)
    → map h l ≡ map f (map g l)
map-map f g h e [] = refl
map-map f g h e (a ∷ l) = ap₂ (λ x y. x ∷ y) (e a) (map-map f g h e l)

pub map-id : {A : Type 0} (l : List A) → map (λ a. a) l ≡ l
map-id [] = refl
map-id (a ∷ l) = ap (λ z. a ∷ z) (map-id l)
