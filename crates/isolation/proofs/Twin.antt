-- Two stores that are alike, and on each the plan of one operation, the two operations differing in hidden values alone: after every
-- proper prefix of the plans, and after the whole plans, the stores are alike again.
use Prim.Native.Nat.{ℕ, zero, suc, ◌+◌, ◌^◌, ◌≤◌, ◌<◌}
use native.Mathlib.Decide.{ℕ_discrete}
use native.Mathlib.Omega.{arith}
use mathlib.Core.Path.{◌≡◌, sym, ap, ◌∙◌, subst}
use mathlib.Core.Bool.{Bool, true, not}
use mathlib.Core.List.{List, [], ◌∷◌, ◌++◌, map, Memᴰ}
use mathlib.Core.Option.{some}
use lib.ListN.{length, take}
use Rattle.segment.proofs.Choice.{both_left}
use Rattle.segment.specs.Layout.{Layout, digest_size, table}
use Rattle.segment.specs.Entry.{Entry, WellFormed, encoded, size_of}
use Rattle.segment.specs.Digest.{layout_in}
use Rattle.segment.specs.declared.Version.{Version}
use Rattle.slot_map.specs.Bit.{bit, named, within}
use Rattle.slot_map.proofs.NextLaws.{next-clear}
use Rattle.record.specs.RangeLaws.{Lent, lent-switched}
use Rattle.record.specs.Switch.{unswitched}
use Rattle.record.specs.declared.Record.{Record}
use Rattle.model.specs.Log.{View, Item, scanned, scan, items_of, segment_of, views_of}
use Rattle.model.specs.Recovery.{recovered}
use Rattle.model.specs.Operations.{new_slot, digest_with, new_digest, all_encoded, commit, stored}
use Rattle.laws.specs.Members.{clash}
use Rattle.laws.specs.Stores.{length-stored}
use Rattle.laws.specs.Scans.{item_at, items_from}
use Rattle.laws.specs.AppendBytes.{append-prefix, append-other, append-digest, append-layout, append-scan}
use Rattle.laws.specs.NewHeadBytes.{head_plan, new-head-prefix, new-head-other-prefix, new-head-other, new-head-view}
use Rattle.laws.specs.RecoverLaws.{recovered-holds, recovered-layout, recovered-scan}
use Rattle.laws.specs.Headed.{new_others}
use Rattle.laws.specs.Planned.{new-below, new-free, new-map-fits}
use Rattle.isolation.proofs.HiddenBytes.{hidden, hidden_item, hidden_scan, map-append, size-hidden, scan-items, encoded-hidden, items_hidden}
use Rattle.isolation.proofs.Alike.{AlikeViews, Alike}

-- entries that are all of the layout
abbrev pub Formed : Layout → List Entry → Type 0
Formed L es = (x : Entry) → Memᴰ x es → WellFormed L x

-- The plans of an entry at the head's end, which go by the head's layout L, and those of a new head, which go by the layout W of new
-- heads, from one record, with the map that they leave.
pub data Twin (of : ℕ → Bool) (L W : Layout) (r : Record) : List (ℕ × ℕ) → List (ℕ × ℕ) → ℕ → Type 0 where
  appends :
      (x x' : Entry) → WellFormed L x → WellFormed L x' → hidden of x ≡ hidden of x' → r.end + size_of L x ≤ r.size →
      Twin of L W r (commit r.size r.head r.end (encoded L x)) (commit r.size r.head r.end (encoded L x')) r.map
  heads :
      (victims : ℕ) (next : Version) (es es' : List Entry) → within victims r.map ≡ true → r.digest.0 + 1 < 256 ^ 4 →
      next.0 < 256 ^ (table W).width → Formed W es → Formed W es' → map (hidden of) es ≡ map (hidden of) es' →
      digest_size W + length (all_encoded W es) ≤ r.size →
      Twin of L W r (head_plan W r.size (new_slot r) (digest_with r victims next) es)
      (head_plan W r.size (new_slot r) (digest_with r victims next) es') (new_digest r victims).map

-- ---- one slot changes in both

one-changed :
    (of : ℕ → Bool) (v v' w w' : ℕ → View) (n j : ℕ) (p q : ℕ → Bool) → AlikeViews of n p v v' → ((i : ℕ) → (i ≡ j → ⊥) → w i ≡ v i) →
    ((i : ℕ) → (i ≡ j → ⊥) → w' i ≡ v' i) → (w j).digest ≡ (w' j).digest →
    (q j ≡ true → (w j).layout ≡ (w' j).layout) → (q j ≡ true → hidden_scan of (w j).scan ≡ hidden_scan of (w' j).scan) → ((i : ℕ) → (i ≡ j → ⊥) → q i ≡ true → p i ≡ true) →
    AlikeViews of n q w w'
one-changed of v v' w w' n j p q a stays stays' digest layouts scans old =
    record { digests = λ i l. digest-of i l (ℕ_discrete i j); layouts = λ i l t. layout_of i l t (ℕ_discrete i j); scans = λ i l t. scan-of i l t (ℕ_discrete i j) }
  where
    digest-of : (i : ℕ) → i < n → Dec (i ≡ j) → (w i).digest ≡ (w' i).digest
    digest-of i l (yes o) = subst (λ (k : ℕ). (w k).digest ≡ (w' k).digest) (sym o) digest
    digest-of i l (no o) =
        ap (λ (x : View). x.digest) (stays i o) ∙ a.digests i l ∙ sym (ap (λ (x : View). x.digest) (stays' i o))

    layout_of : (i : ℕ) → i < n → q i ≡ true → Dec (i ≡ j) → (w i).layout ≡ (w' i).layout
    layout_of i l t (yes o) = subst (λ (k : ℕ). q k ≡ true → (w k).layout ≡ (w' k).layout) (sym o) layouts t
    layout_of i l t (no o) =
        ap (λ (x : View). x.layout) (stays i o) ∙ a.layouts i l (old i o t) ∙ sym (ap (λ (x : View). x.layout) (stays' i o))

    scan-of : (i : ℕ) → i < n → q i ≡ true → Dec (i ≡ j) → hidden_scan of (w i).scan ≡ hidden_scan of (w' i).scan
    scan-of i l t (yes o) =
        subst (λ (k : ℕ). q k ≡ true → hidden_scan of (w k).scan ≡ hidden_scan of (w' k).scan) (sym o) scans t
    scan-of i l t (no o) =
        ap (λ (x : View). hidden_scan of x.scan) (stays i o) ∙ a.scans i l (old i o t) ∙
        sym (ap (λ (x : View). hidden_scan of x.scan) (stays' i o))

-- no slot changes in either
none-changed :
    (of : ℕ → Bool) (v v' w w' : ℕ → View) (n : ℕ) (p : ℕ → Bool) → AlikeViews of n p v v' → ((i : ℕ) → w i ≡ v i) → ((i : ℕ) → w' i ≡ v' i) →
    AlikeViews of n p w w'
none-changed of v v' w w' n p a stays stays' =
    record {
      digests = λ i l. ap (λ (x : View). x.digest) (stays i) ∙ a.digests i l ∙ sym (ap (λ (x : View). x.digest) (stays' i));
      layouts = λ i l t. ap (λ (x : View). x.layout) (stays i) ∙ a.layouts i l t ∙ sym (ap (λ (x : View). x.layout) (stays' i));
      scans =
          λ i l t.
          ap (λ (x : View). hidden_scan of x.scan) (stays i) ∙ a.scans i l t ∙ sym (ap (λ (x : View). hidden_scan of x.scan) (stays' i));
    }

-- ---- the scans that are left

module _ (of : ℕ → Bool) (L : Layout) where
  appended-scan :
      (is is' : List Item) (e : ℕ) (x x' : Entry) → map (hidden_item of) is ≡ map (hidden_item of) is' → hidden of x ≡ hidden of x' →
      hidden_scan of (scanned (is ++ item_at e x ∷ []) (e + size_of L x)) ≡ hidden_scan of (scanned (is' ++ item_at e x' ∷ []) (e + size_of L x'))
  appended-scan is is' e x x' p q =
      one is x ∙ ap (λ (l : List Item). scanned (l ++ item_at e (hidden of x) ∷ []) (e + size_of L (hidden of x))) p ∙
      ap (λ (y : Entry). scanned (map (hidden_item of) is' ++ item_at e y ∷ []) (e + size_of L y)) q ∙ sym (one is' x')
    where
      one :
          (l : List Item) (y : Entry) → hidden_scan of (scanned (l ++ item_at e y ∷ []) (e + size_of L y)) ≡
          scanned (map (hidden_item of) l ++ item_at e (hidden of y) ∷ []) (e + size_of L (hidden of y))
      one l y = unfold hidden_scan in rw (map-append (hidden_item of) l (item_at e y ∷ []), size-hidden of L y)

  headed-scan :
      (at : ℕ) (es es' : List Entry) → map (hidden of) es ≡ map (hidden of) es' →
      hidden_scan of (scanned (items_from L at es) (at + length (all_encoded L es))) ≡
      hidden_scan of (scanned (items_from L at es') (at + length (all_encoded L es')))
  headed-scan at es es' p =
      one es ∙ ap (λ (l : List Entry). scanned (items_from L at l) (at + length (all_encoded L l))) p ∙ sym (one es')
    where
      one :
          (l : List Entry) → hidden_scan of (scanned (items_from L at l) (at + length (all_encoded L l))) ≡
          scanned (items_from L at (map (hidden of) l)) (at + length (all_encoded L (map (hidden of) l)))
      one l = unfold hidden_scan in rw (items_hidden of L at l, encoded-hidden of L l)

  size_same : (x x' : Entry) → hidden of x ≡ hidden of x' → size_of L x ≡ size_of L x'
  size_same x x' q = sym (size-hidden of L x) ∙ ap (size_of L) q ∙ size-hidden of L x'

  long_same : (es es' : List Entry) → map (hidden of) es ≡ map (hidden of) es' → length (all_encoded L es) ≡ length (all_encoded L es')
  long_same es es' q = sym (encoded-hidden of L es) ∙ ap (λ (l : List Entry). length (all_encoded L l)) q ∙ encoded-hidden of L es'

-- ---- after a prefix, and after all

module _ (of : ℕ → Bool) (L W : Layout) (r : Record) (area area' : List ℕ)
    (e : recovered L r.slots r.size r.cells area ≡ some (unswitched r)) (e' : recovered L r.slots r.size r.cells area' ≡ some (unswitched r))
    (a : Alike of r.slots r.size r.map area area')
  where
    abbrev Left : ℕ → List (ℕ × ℕ) → List (ℕ × ℕ) → Type 0
    Left m plan plan' = Alike of r.slots r.size m (stored area plan) (stored area' plan')

    facts : Lent L r (length area) r.cells
    facts = lent-switched r (recovered-holds L r.slots r.size r.cells area (unswitched r) e)

    facts' : Lent L r (length area') r.cells
    facts' = lent-switched r (recovered-holds L r.slots r.size r.cells area' (unswitched r) e')

    left-long : (plan plan' : List (ℕ × ℕ)) → length (stored area plan) ≡ length (stored area' plan')
    left-long plan plan' = length-stored area plan ∙ a.long ∙ sym (length-stored area' plan')

    own-edition : layout_in (segment_of area r.size r.head) ≡ L
    own-edition = recovered-layout L r.slots r.size r.cells area (unswitched r) e

    own-edition' : layout_in (segment_of area' r.size r.head) ≡ L
    own-edition' = recovered-layout L r.slots r.size r.cells area' (unswitched r) e'

    abbrev items : List ℕ → List Item
    items l = items_of (views_of l r.size r.head).scan

    head-scans : hidden_scan of (views_of area r.size r.head).scan ≡ hidden_scan of (views_of area' r.size r.head).scan
    head-scans = a.views.scans r.head facts.head-below facts.head-named

    head-items : map (hidden_item of) (items area) ≡ map (hidden_item of) (items area')
    head-items =
        sym (scan-items of (views_of area r.size r.head).scan) ∙ ap items_of head-scans ∙
        scan-items of (views_of area' r.size r.head).scan

    -- an entry at the head's end
    module _ (x x' : Entry) (f : WellFormed L x) (f' : WellFormed L x') (same : hidden of x ≡ hidden of x') (fits : r.end + size_of L x ≤ r.size) where
      abbrev appending : Entry → List (ℕ × ℕ)
      appending y = commit r.size r.head r.end (encoded L y)

      fits' : r.end + size_of L x' ≤ r.size
      fits' = omega (arith, size_same of L x x' same)

      append-cut :
          (k : ℕ) → k < length (appending x) → k < length (appending x') → Left r.map (take k (appending x)) (take k (appending x'))
      append-cut k h h' =
          record {
            long = left-long (take k (appending x)) (take k (appending x'));
            views =
                none-changed of (views_of area r.size) (views_of area' r.size) (views_of (stored area (take k (appending x))) r.size)
                (views_of (stored area' (take k (appending x'))) r.size) r.slots (named r.map) a.views
                (append-prefix L r.slots r.size r.head area (items area) r.end x facts.area-own facts.head-below
                own-edition (recovered-scan L r.slots r.size r.cells area (unswitched r) e) f fits k h)
                (append-prefix L r.slots r.size r.head area' (items area') r.end x' facts'.area-own facts'.head-below
                own-edition' (recovered-scan L r.slots r.size r.cells area' (unswitched r) e') f' fits' k h');
          }

      append-done : Left r.map (appending x) (appending x')
      append-done =
          record {
            long = left-long (appending x) (appending x');
            views =
                one-changed of (views_of area r.size) (views_of area' r.size) (views_of (stored area (appending x)) r.size)
                (views_of (stored area' (appending x')) r.size) r.slots r.head (named r.map) (named r.map) a.views
                (append-other L r.slots r.size r.head area (items area) r.end x facts.area-own facts.head-below own-edition own f fits)
                (append-other L r.slots r.size r.head area' (items area') r.end x' facts'.area-own facts'.head-below own-edition' own' f' fits')
                (append-digest L r.slots r.size r.head area (items area) r.end x facts.area-own facts.head-below own-edition own f fits ∙
                a.views.digests r.head facts.head-below ∙
                sym (append-digest L r.slots r.size r.head area' (items area') r.end x' facts'.area-own facts'.head-below own-edition' own' f' fits'))
                (λ t.
                append-layout L r.slots r.size r.head area (items area) r.end x facts.area-own facts.head-below own-edition own f fits ∙
                own-edition ∙ sym own-edition' ∙
                sym (append-layout L r.slots r.size r.head area' (items area') r.end x' facts'.area-own facts'.head-below own-edition' own' f' fits'))
                (λ t.
                ap (hidden_scan of) (append-scan L r.slots r.size r.head area (items area) r.end x facts.area-own facts.head-below own-edition own f fits) ∙
                appended-scan of L (items area) (items area') r.end x x' head-items same ∙
                sym (ap (hidden_scan of) (append-scan L r.slots r.size r.head area' (items area') r.end x' facts'.area-own facts'.head-below own-edition' own' f' fits')))
                (λ i o t. t);
          }
        where
          own : scan L (segment_of area r.size r.head) ≡ scanned (items area) r.end
          own = recovered-scan L r.slots r.size r.cells area (unswitched r) e

          own' : scan L (segment_of area' r.size r.head) ≡ scanned (items area') r.end
          own' = recovered-scan L r.slots r.size r.cells area' (unswitched r) e'

    -- a new head
    module _ (victims : ℕ) (next : Version) (es es' : List Entry) (sub : within victims r.map ≡ true) (same : map (hidden of) es ≡ map (hidden of) es')
        (fits : digest_size W + length (all_encoded W es) ≤ r.size)
      where
        abbrev heading : List Entry → List (ℕ × ℕ)
        heading l = head_plan W r.size (new_slot r) (digest_with r victims next) l

        fits-too : digest_size W + length (all_encoded W es') ≤ r.size
        fits-too = omega (arith, long_same of W es es' same)

        head-cut : (k : ℕ) → k < length (heading es) → k < length (heading es') → Left r.map (take k (heading es)) (take k (heading es'))
        unfolding stored
        head-cut zero h h' = record { long = a.long; views = a.views }
        head-cut (suc k) h h' =
            record {
              long = left-long (take (suc k) (heading es)) (take (suc k) (heading es'));
              views =
                  one-changed of (views_of area r.size) (views_of area' r.size)
                  (views_of (stored area (take (suc k) (heading es))) r.size) (views_of (stored area' (take (suc k) (heading es'))) r.size)
                  r.slots (new_slot r) (named r.map) (named r.map) a.views
                  (new-head-other-prefix W r.size (new_slot r) area (digest_with r victims next) es fits (suc k))
                  (new-head-other-prefix W r.size (new_slot r) area' (digest_with r victims next) es' fits-too (suc k))
                  (new-head-prefix W r.size (new_slot r) area (digest_with r victims next) es fits (suc k) (omega arith) h ∙
                  sym (new-head-prefix W r.size (new_slot r) area' (digest_with r victims next) es' fits-too (suc k) (omega arith) h'))
                  (λ t. absurd (clash (named r.map (new_slot r)) t (new-free L area r e)))
                  (λ t. absurd (clash (named r.map (new_slot r)) t (new-free L area r e))) (λ i o t. t);
            }

        head_done :
            Formed W es → Formed W es' → r.digest.0 + 1 < 256 ^ 4 → next.0 < 256 ^ (table W).width → Left (new_digest r victims).map (heading es) (heading es')
        head_done f f' number next_fits =
            record {
              long = left-long (heading es) (heading es');
              views =
                  one-changed of (views_of area r.size) (views_of area' r.size) (views_of (stored area (heading es)) r.size)
                  (views_of (stored area' (heading es')) r.size) r.slots (new_slot r) (named r.map) (named (new_digest r victims).map) a.views
                  (new-head-other W r.size (new_slot r) area (digest_with r victims next) es fits)
                  (new-head-other W r.size (new_slot r) area' (digest_with r victims next) es' fits-too)
                  (ap (λ (x : View). x.digest) view ∙ sym (ap (λ (x : View). x.digest) view'))
                  (λ t. ap (λ (x : View). x.layout) view ∙ sym (ap (λ (x : View). x.layout) view'))
                  (λ t.
                  ap (λ (x : View). hidden_scan of x.scan) view ∙ headed-scan of W (digest_size W) es es' same ∙
                  sym (ap (λ (x : View). hidden_scan of x.scan) view'))
                  (λ i o t.
                  both_left (named r.map i) (not (named victims i)) (sym (new_others r.map victims (new_slot r) sub clear i o) ∙ t));
            }
          where
            clear : bit r.map (new_slot r) ≡ 0
            clear = next-clear r.slots r.map r.head facts.head-below facts.some-free

            view :
                views_of (stored area (heading es)) r.size (new_slot r) ≡
                record { layout = W; digest = some (digest_with r victims next); scan = scanned (items_from W (digest_size W) es) (digest_size W + length (all_encoded W es)) }
            view =
                new-head-view W (digest_with r victims next) es number (new-map-fits L area r e victims sub) next_fits f r.slots
                r.size (new_slot r) area facts.area-own (new-below L area r e) fits

            view' :
                views_of (stored area' (heading es')) r.size (new_slot r) ≡
                record { layout = W; digest = some (digest_with r victims next); scan = scanned (items_from W (digest_size W) es') (digest_size W + length (all_encoded W es')) }
            view' =
                new-head-view W (digest_with r victims next) es' number (new-map-fits L area' r e' victims sub) next_fits f' r.slots
                r.size (new_slot r) area' facts'.area-own (new-below L area' r e') fits-too

    -- After a proper prefix of both plans the areas are alike under the old map,
    pub twin-cut :
        {plan plan' : List (ℕ × ℕ)} {m : ℕ} → Twin of L W r plan plan' m → (k : ℕ) → k < length plan → k < length plan' →
        Left r.map (take k plan) (take k plan')
    twin-cut (appends x x' f f' same fits) k h h' = append-cut x x' f f' same fits k h h'
    twin-cut (heads victims next es es' sub number wide f f' same fits) k h h' = head-cut victims next es es' sub same fits k h h'

    -- and after both whole plans under the map that they leave.
    pub twin-done : {plan plan' : List (ℕ × ℕ)} {m : ℕ} → Twin of L W r plan plan' m → Left m plan plan'
    twin-done (appends x x' f f' same fits) = append-done x x' f f' same fits
    twin-done (heads victims next es es' sub number wide f f' same fits) = head_done victims next es es' sub same fits f f' number wide
