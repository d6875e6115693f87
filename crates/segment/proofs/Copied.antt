-- Laws of: Bytes copied to a buffer, and how a copy goes on behind them.
use Rattle.std.specs.Prelude.{ℕ, ◌+◌, ◌-◌, ◌≤◌, ◌≡◌, refl, List, [], ◌++◌, length, take, drop}
use Rattle.std.proofs.Common.{sym, ◌∙◌, ap, subst, arith, length-append}
use Rattle.std.proofs.lemmas.List.Edits.{sets}
use Rattle.std.proofs.Math.Seq.{length-sets}
use Rattle.word.specs.Laws.{sets-append}
use Rattle.segment.proofs.Packed.{length_part}
use Rattle.segment.specs.Copied.{Copied, Copying}

-- nothing to copy
pub copied_none : (bytes work : List ℕ) (to : ℕ) → bytes ≡ [] → Copied bytes work to work to
copied_none bytes work to e = rw e (record { stored = refl; behind = omega arith })

-- a part of the area, as the code cuts it
pub copied-part : (area work work' : List ℕ) (to place n : ℕ) (bytes : List ℕ) → place + n ≤ length area → bytes ≡ take n (drop place area) →
    work' ≡ sets work to (take (place + n - place) (drop place area)) → Copied bytes work to work' (to + n)
copied-part area work work' to place n bytes fits e p =
    let same : place + n - place ≡ n = omega arith in
    record {
      stored = p ∙ ap (λ (k : ℕ). sets work to (take k (drop place area))) same ∙ ap (sets work to) (sym e);
      behind = omega (arith, ap length e, length_part n place area fits);
    }

pub part_room : (area : List ℕ) (to place n room : ℕ) (bytes : List ℕ) → bytes ≡ take n (drop place area) → to + length bytes ≤ room →
    to + length (take (place + n - place) (drop place area)) ≤ room
part_room area to place n room bytes e fits =
    let same : place + n - place ≡ n = omega arith in
    omega (arith, ap length e, ap (λ (k : ℕ). length (take k (drop place area))) same)

-- the same bytes by another name
pub copied-as : {a b work work' : List ℕ} {to r : ℕ} → a ≡ b → Copied a work to work' r → Copied b work to work' r
copied-as {a} {b} {work} {work'} {to} {r} e p = subst (λ (l : List ℕ). Copied l work to work' r) e p

pub copied-long : {a work work' : List ℕ} {from to : ℕ} → Copied a work from work' to → length work' ≡ length work
copied-long {a} {work} {from = from} p = ap length p.stored ∙ length-sets work from a

pub copying-start : (whole work : List ℕ) (from : ℕ) (all : List ℕ) → all ≡ whole → Copying whole work from all work from
copying-start whole work from all e = rw e (record { stored = refl; behind = refl; long = refl })

module _ {whole work₀ : List ℕ} {from : ℕ} {rest work : List ℕ} {to : ℕ} (c : Copying whole work₀ from rest work to) where
  -- there is room for the rest
  pub copying-room : from + length whole ≤ length work₀ → (a b : List ℕ) → rest ≡ a ++ b → to + length a ≤ length work
  copying-room fits a b e = omega (arith, c.behind, c.long, ap length e, length-append a b)

  pub copying-next : (a b work' : List ℕ) (r : ℕ) → rest ≡ a ++ b → Copied a work to work' r → Copying whole work₀ from b work' r
  copying-next a b work' r e p =
      record {
        stored =
            ap (λ (l : List ℕ). sets l r b) p.stored
            ∙ ap (λ (k : ℕ). sets (sets work to a) k b) p.behind
            ∙ sym (sets-append work to a b)
            ∙ ap (sets work to) (sym e)
            ∙ c.stored;
        behind = omega (arith, p.behind, c.behind, ap length e, length-append a b);
        long = copied-long p ∙ c.long;
      }

  pub copying-end : rest ≡ [] → Copied whole work₀ from work to
  copying-end e =
      record { stored = ap (sets work to) (sym e) ∙ c.stored; behind = omega (arith, c.behind, ap length e) }
