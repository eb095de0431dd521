-- Merging a table to the end: what holds after each merge. Assumes nothing.
use Rattle.std.specs.Prelude.{None, Some}
use mathlib.Core.List.{List, [], ◌++◌, ◌∷◌}
use mathlib.Core.Path.{◌∙◌, ◌≡◌, ap, refl, subst, sym}
use Prim.Native.Nat.{◌*◌, ◌+◌, ℕ}
use native.Mathlib.Omega.{arith}
use lib.ListN.{length}
use Rattle.blocks.specs.DiskCode.{Copied, MergeFits}
use Rattle.blocks.proofs.DiskCopies.{run_append}
use Rattle.blocks.proofs.DiskFits.{merge_on_disk}
use Rattle.section.specs.Limits.{block_size, greatest_disk, height_count, most_files}
use Rattle.layout.specs.Removing.{Merge, copies_of, layout_after}
use Rattle.manager.specs.Disk.{run_copies}
use Rattle.free_pieces.specs.Free.{Pairs, free_of, lowest_pair}
use Rattle.free_pieces.specs.Gaps.{PairFits, pair_copies}
use Rattle.free_pieces.specs.declared.Free.{Free}
use Rattle.free_pieces.specs.declared.Pair.{Pair}
use Rattle.table.proofs.ReadyPairs.{Fits, merge_ready}
use Rattle.table.specs.Merges.{Merged, Ready}
use Rattle.table.specs.Tables.{Sized, layout_of}
use Rattle.table.specs.declared.Entry.{Entry}
use Rattle.table.specs.declared.Table.{Table}
use Rattle.settling.specs.Settling.{CanSettle, Settles, merges_of}
use Rattle.settling.proofs.MadeMerges.{MadeMerges, copies_more, made_all, made_more, made_none, made_pair}
use Rattle.settling.proofs.MadeMerges.{merge_of, next_countable, next_fits}

-- a table with other files, as many, and other free pieces
abbrev pub with_lists : Table → List Entry → Free → Table
with_lists t files free = record { blocks = t.blocks; count = t.count; files = files; free = free }

-- t and the disk d after some of the merges of t₀, with `copied` blocks copied
pub record Settling (t₀ : Table) (d₀ : List ℕ) (t : Table) (d : List ℕ) (copied : ℕ) : Type 0 where
  pub made : List Merge
  pub merges : MadeMerges t₀.blocks (layout_of t₀) t₀.free.count (layout_of t) t.free made copied
  pub disk : d ≡ run_copies d₀ (copies_of made)
  pub sized : Sized t
  pub long : length d ≡ block_size * t₀.blocks
  pub blocks : t.blocks ≡ t₀.blocks

pub settling_start : (t : Table) (d : List ℕ) → CanSettle t (length d) → Settling t d t d 0
unfolding layout_of copies_of run_copies
settling_start t d s = record {
  made = [];
  merges =
      made_none t.blocks (layout_of t) t.free
      (record { whole = s.whole; small = s.small; list = refl; exact = s.exact; few = s.sized.free });
  disk = refl;
  sized = s.sized;
  long = s.disk;
  blocks = refl;
}

module _ (t₀ : Table) (d₀ : List ℕ) (t : Table) (d : List ℕ) (copied : ℕ) (g : Settling t₀ d₀ t d copied) where
  module _ (p : Pair) (ps : Pairs t.free.count (lowest_pair height_count 0 (free_of t.free)) (Some p)) where
    -- what the merge asks for
    pub settling_ready : Ready t p
    settling_ready =
        merge_ready t₀.blocks g.merges.starts.small t g.merges.starts.whole g.sized p
        (made_pair g.merges ps)

    fits : Fits t₀.blocks (layout_of t) p.lower p.upper (free_of p.others)
    fits = next_fits g.merges ps

    pub settling_copies : MergeFits (length d) p.lower p.upper
    settling_copies =
        subst (λ n. MergeFits n p.lower p.upper) (sym g.long)
        (merge_on_disk t₀.blocks p.lower p.upper g.merges.starts.small fits.buddy fits.upper
        fits.same)

    pub settling_countable : PairFits p
    settling_countable = next_countable g.merges ps

    -- and what holds after it, with n blocks copied by then
    pub settling_more : (d' : List ℕ) (k n : ℕ) (r : Table) → Copied d d' (pair_copies p) greatest_disk k
        → Merged t p r → n ≡ copied + k → Settling t₀ d₀ r d' n
    unfolding layout_of
    settling_more d' k n r c m sum = record {
      made = g.made ++ (merge_of p (layout_of t) ∷ []);
      merges =
          made_more g.merges ps (layout_of r) r.free n m.layout refl m.exact m.free
          (omega (arith, sum, c.count));
      disk =
          c.disk
          ∙ (ap (λ z. run_copies z (pair_copies p)) g.disk
          ∙ (sym (run_append (copies_of g.made) (pair_copies p) d₀)
          ∙ ap (run_copies d₀) (sym (copies_more g.merges ps))));
      sized = m.sized;
      long = c.same ∙ g.long;
      blocks = m.blocks ∙ g.blocks;
    }

  -- no height has two any more
  pub settling_end : Pairs t.free.count (lowest_pair height_count 0 (free_of t.free)) None
      → length t.files ≡ most_files → Settles t₀ d₀ d (record { table = t; copied = copied })
  settling_end ps long =
      let all : g.made ≡ merges_of t₀ = made_all g.merges ps in
      record {
        layout = g.merges.layout ∙ ap (layout_after (layout_of t₀)) all;
        disk = g.disk ∙ ap (λ z. run_copies d₀ (copies_of z)) all;
        count = g.merges.count ∙ ap (λ z. length (copies_of z)) all;
        sized = g.sized;
        blocks = g.blocks;
        array = long;
        exact = g.merges.starts.exact;
      }
