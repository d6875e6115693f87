-- The scan of a segment from an offset on, and the log one slot after the other.
use Prim.Native.Nat.{ℕ, zero, suc, ◌+◌, ◌-◌, ◌≤◌, ◌<◌}
use Rattle.std.specs.Prelude.{◌≡◌, Bool, true, false}
use Rattle.std.proofs.Math.Path.{refl, sym, ap}
use Rattle.std.proofs.Common.{◌∙◌, add-one, arith}
use mathlib.Core.List.{List, [], ◌++◌, append-nil}
use Rattle.std.proofs.Math.ListN.{length}
use Rattle.segment.specs.Choice.{both}
use Rattle.segment.proofs.Choice.{pick_true, pick-false, both_true, either-false, either-true-left, either-true-right}
use Rattle.segment.specs.Layout.{Layout, digest_size}
use Rattle.segment.specs.Entry.{Entry, Found, entry, end, damage, entry_at, size_of}
use Rattle.segment.proofs.EntryLaws.{past_end}
use Rattle.segment.specs.Entries.{next_of}
use Rattle.segment.proofs.EntriesLaws.{next-entry, next_fits}
use Rattle.segment.specs.declared.Header.{Header}
use Rattle.segment.specs.declared.Next.{Next}
use Rattle.segment.specs.declared.Next.TheVariants as N
use Rattle.model.specs.Log.{View, Item, Placed, Scan, damaged, scanned, item_first, scan_from, scan, items_of, end_of, is_damaged, placed_in, log_of}
use Rattle.model.specs.Recovery.{log_damaged}
use Rattle.laws.specs.Scans.{item_at, scan-entry, scan-end, scan-damage}
use Rattle.drive_log.specs.Heads.{stays}

-- What it means that an entry of that version and length stands at an offset.
pub record Meets (L : Layout) (s : List ℕ) (at v len : ℕ) : Type 0 where
  pub met : Entry
  pub is : entry_at L s at ≡ entry met
  pub its-version : met.version ≡ v
  pub its-size : size_of L met ≡ len
  pub fits : at + len ≤ length s
  pub some_byte : 1 ≤ len

pub meets : (L : Layout) (s : List ℕ) (at : ℕ) (next : Next) → next ≡ next_of L (entry_at L s at) → (h : Header) → next ≡ N.Entry h
    → Meets L s at h.version.0 h.length
meets L s at next given h e =
    let (x, p, q) = next-entry L s at next given h e in
    let fits = next_fits L s at next given h e in
    record {
      met = x;
      is = p;
      its-version = ap (λ (w : Header). w.version.0) q;
      its-size = ap (λ (w : Header). w.length) q;
      fits = fits.1;
      some_byte = fits.0;
    }

-- ---- the scan from an offset on

-- with fuel for each byte that is left and the end, which suffices
unfoldable pub rest_of : Layout → List ℕ → ℕ → Scan
rest_of L s at = scan_from L s (suc (length s) - at) at

module _ (L : Layout) (s : List ℕ) where
  -- more fuel changes nothing
  fuelled : (f g at : ℕ) → length s < at + f → length s < at + g → scan_from L s f at ≡ scan_from L s g at
  unfolding scan_from
  fuelled zero zero at h k = refl
  fuelled zero (suc g) at h k = sym (scan-damage L s g at (past_end L s at (omega arith)))
  fuelled (suc f) zero at h k = scan-damage L s f at (past_end L s at (omega arith))
  fuelled (suc f) (suc g) at h k = go (entry_at L s at) refl (λ b l m. fuelled f g b l m)
    where
      go : (r : Found) → entry_at L s at ≡ r
          → ((b : ℕ) → length s < b + f → length s < b + g → scan_from L s f b ≡ scan_from L s g b)
          → scan_from L s (suc f) at ≡ scan_from L s (suc g) at
      go (entry x) p below =
          scan-entry L s f at x p
          ∙ ap (item_first (item_at at x)) (below (at + size_of L x) (omega arith) (omega arith))
          ∙ sym (scan-entry L s g at x p)
      go end p below = scan-end L s f at p ∙ sym (scan-end L s g at p)
      go damage p below = scan-damage L s f at p ∙ sym (scan-damage L s g at p)

  pub rest-whole : rest_of L s (digest_size L) ≡ scan L s
  unfolding rest_of
  rest-whole = fuelled (suc (length s) - digest_size L) (suc (length s)) (digest_size L) (omega arith) (omega arith)

  module _ (at : ℕ) where
    pub rest-entry : {v len : ℕ} (m : Meets L s at v len) → rest_of L s at ≡ item_first (item_at at m.met) (rest_of L s (at + len))
    unfolding rest_of
    rest-entry {v} {len} m =
        fuelled (suc (length s) - at) (suc (length s - at)) at (omega arith) (omega arith)
        ∙ scan-entry L s (length s - at) at m.met m.is
        ∙ ap (λ (k : ℕ). item_first (item_at at m.met) (scan_from L s (length s - at) (at + k))) m.its-size
        ∙ ap (item_first (item_at at m.met))
        (fuelled (length s - at) (suc (length s) - (at + len)) (at + len) (omega (arith, m.some_byte, m.fits)) (omega arith))

    pub rest_end : entry_at L s at ≡ end → rest_of L s at ≡ scanned [] at
    unfolding rest_of
    rest_end e =
        fuelled (suc (length s) - at) (suc (suc (length s) - at)) at (omega arith) (omega arith)
        ∙ scan-end L s (suc (length s) - at) at e

    pub rest-damage : entry_at L s at ≡ damage → rest_of L s at ≡ damaged
    unfolding rest_of
    rest-damage e =
        fuelled (suc (length s) - at) (suc (suc (length s) - at)) at (omega arith) (omega arith)
        ∙ scan-damage L s (suc (length s) - at) at e

-- ---- the turns of the loop that looks for the end

end-first : (i : Item) (r : Scan) → end_of (item_first i r) ≡ end_of r
unfolding end_of item_first
end-first i damaged = refl
end-first i (scanned is e) = refl

module _ (L : Layout) (s : List ℕ) (at whole : ℕ) (so_far : end_of (rest_of L s at) ≡ whole) where
  pub end-turn : {v len : ℕ} → Meets L s at v len → end_of (rest_of L s (at + len)) ≡ whole
  end-turn {v} {len} m =
      sym (end-first (item_at at m.met) (rest_of L s (at + len))) ∙ ap end_of (sym (rest-entry L s at m)) ∙ so_far

  pub end-here : entry_at L s at ≡ end → at ≡ whole
  unfolding end_of
  end-here e = ap end_of (sym (rest_end L s at e)) ∙ so_far

  pub end-damage : entry_at L s at ≡ damage → 0 ≡ whole
  unfolding end_of
  end-damage e = ap end_of (sym (rest-damage L s at e)) ∙ so_far

-- ---- the log, one slot more

module _ (v : ℕ → View) (p : ℕ → Bool) (i : ℕ) where
  pub log-skip : p i ≡ false → log_of v p (i + 1) ≡ log_of v p i
  unfolding log_of
  log-skip q =
      ap (log_of v p) (add-one i)
      ∙ ap (λ (l : List Placed). log_of v p i ++ l) (pick-false (p i) (placed_in (v i).layout i (items_of (v i).scan)) [] q)
      ∙ append-nil (log_of v p i)

  pub log-take : p i ≡ true → log_of v p (i + 1) ≡ log_of v p i ++ placed_in (v i).layout i (items_of (v i).scan)
  unfolding log_of
  log-take q =
      ap (log_of v p) (add-one i)
      ∙ ap (λ (l : List Placed). log_of v p i ++ l) (pick_true (p i) (placed_in (v i).layout i (items_of (v i).scan)) [] q)

  pub sound-slot : both (p i) (is_damaged (v i).scan) ≡ false → log_damaged v p i ≡ false → log_damaged v p (i + 1) ≡ false
  unfolding log_damaged
  sound-slot q e = ap (log_damaged v p) (add-one i) ∙ either-false (log_damaged v p i) (both (p i) (is_damaged (v i).scan)) e q

-- damage in a slot of the log is damage in the log
pub damaged-slot : (v : ℕ → View) (p : ℕ → Bool) (i n : ℕ) → i < n → p i ≡ true → is_damaged (v i).scan ≡ true → log_damaged v p n ≡ true
unfolding log_damaged
damaged-slot v p i n h q e =
    stays (log_damaged v p) (λ m. either-true-left (log_damaged v p m) (both (p m) (is_damaged (v m).scan))) (suc i) n h
    (either-true-right (log_damaged v p i) (both (p i) (is_damaged (v i).scan)) (both_true (p i) (is_damaged (v i).scan) q e))
