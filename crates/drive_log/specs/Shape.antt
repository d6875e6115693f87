-- The sizes of an area, as recovery has tested them (cause 1), and where its slots lie.
use Rattle.std.specs.Prelude.{ℕ, ◌+◌, ◌*◌, ◌≤◌, ◌<◌, ◌≡◌, List, length}
use Rattle.std.proofs.Common.{◌∙◌, ap, arith}
use Rattle.segment.specs.Layout.{Layout, edition2, digest_size, table}
use Rattle.segment.specs.Digest.{layout_in}
use Rattle.model.specs.Log.{segment_of, scan, views_of}
use Rattle.laws.specs.Stores.{slot-inside, length-segment}

pub record Shape (n s : ℕ) (area : List ℕ) : Type 0 where
  pub slots-least : 4 ≤ n
  pub slots-most : n ≤ 32
  pub size-least : 256 ≤ s
  pub size-most : s ≤ 2048
  pub whole : length area ≡ n * s

module _ {n s : ℕ} {area : List ℕ} (shape : Shape n s area) (i : ℕ) (below : i < n) where
  -- a slot below n lies in the area
  pub inside : i * s + s ≤ length area
  inside = slot-inside area n s i shape.whole below

  -- and has room for a digest
  pub digest-inside : (part : List ℕ) → part ≡ segment_of area s i → digest_size edition2 ≤ length part
  unfolding table
  digest-inside part e = rw e (omega (arith, length-segment area s i inside, shape.size-least))

  -- and is at most 2,048 bytes long
  pub part-short : (part : List ℕ) → part ≡ segment_of area s i → length part ≤ 2048
  part-short part e = rw e (omega (arith, length-segment area s i inside, shape.size-most))

-- The edition that a slot's byte 0 tells is that of its view.
pub own-layout : (area : List ℕ) (s i : ℕ) (part : List ℕ) → part ≡ segment_of area s i → (L : Layout) → L ≡ layout_in part → L ≡ (views_of area s i).layout
own-layout area s i part e L own = own ∙ ap layout_in e

-- A slot read by it gives its view.
pub own-scan : (area : List ℕ) (s i : ℕ) (part : List ℕ) → part ≡ segment_of area s i → (L : Layout) → L ≡ layout_in part → scan L part ≡ (views_of area s i).scan
own-scan area s i part e L own = ap (λ (K : Layout). scan K part) own ∙ ap (λ (l : List ℕ). scan (layout_in l) l) e
