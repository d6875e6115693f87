-- The invariant: the area recovers to the book; if a record is held it is genuine; a pending operation is started, and its stores left
-- are the book's.
use Prim.Native.Nat.{ℕ, ◌-◌, ◌<◌}
use mathlib.Core.Path.{◌≡◌, sym, ap, ◌∙◌, subst}
use mathlib.Core.Bool.{true}
use mathlib.Core.List.{List}
use mathlib.Core.Option.{Option, none, some}
use lib.ListN.{length}
use Rattle.word.specs.Number.{Bytes}
use Rattle.segment.specs.Layout.{Layout}
use Rattle.segment.specs.Entry.{Entry}
use Rattle.segment.specs.declared.Key.{Key}
use Rattle.record.specs.Answers.{with_pending}
use Rattle.record.specs.Switch.{unswitched, as_recovered}
use Rattle.record.specs.declared.Pending.TheVariants.{Idle}
use Rattle.record.specs.declared.Refusal.{Refusal}
use Rattle.record.specs.declared.Record.{Record}
use Rattle.slot_map.specs.Bit.{named}
use Rattle.model.specs.Log.{Placed, views_of}
use Rattle.model.specs.Causes.{first_cause}
use Rattle.model.specs.Recovery.{recovered, record_from, if_none, area_causes, image_layout}
use Rattle.model.specs.Operations.{log_now, stores_for}
use Rattle.model.specs.Promises.{Genuine, Started}
use Rattle.laws.specs.Members.{In}
use Rattle.laws.specs.LogLaws.{log-in}
use Rattle.laws.specs.MapLaws.{value_at}
use Rattle.laws.specs.Operated.{Accepted}
use Rattle.laws.specs.RecoverLaws.{recovered-own, recovered-edition, recovered-image}
use Rattle.history.specs.Book.{Kept, Book}
use Rattle.history.specs.Editions.{Editions, Among}
use Rattle.history.specs.Runs.{Held, World}

-- the entry by which a log holds what the book holds of a key
unfoldable pub book_entry : Key → Option Kept → Option Entry
book_entry k none = none
book_entry k (some x) =
    some
    (record {
      table = k.table;
      key = k.key;
      version = x.version;
      value = some x.value;
    })

-- every slot of a map is of an edition that slots may have
abbrev pub SlotsAmong : Editions → (n s : ℕ) → List ℕ → ℕ → Type 0
SlotsAmong E n s area map = (i : ℕ) → i < n → named map i ≡ true → Among E (views_of area s i).layout

-- and so an entry of the log stands in one
pub placed-among : (E : Editions) (area : List ℕ) (r : Record) → SlotsAmong E r.slots r.size area r.map → (x : Placed) → In x (log_now area r) → Among E x.layout
placed-among E area r slots x i =
    let at = log-in (views_of area r.size) (named r.map) r.slots x i in
    subst (Among E) (sym at.layout) (slots x.slot at.below at.picked)

-- The bytes of the area say what the book holds,
-- and the slots are of editions that they may have, L being the head's
pub record Agrees (E : Editions) (L : Layout) (n s : ℕ) (area : List ℕ) (b : Book) : Type 0 where
  pub next-same : (record_from L n s 16 area).next.0 ≡ b.next
  pub map_same : (k : Key) → value_at (log_now area (record_from L n s 16 area)) k ≡ book_entry k (b.keys k)
  pub own-among : Among E L
  pub slots-among : SlotsAmong E n s area (record_from L n s 16 area).map

-- how many cells are known to suffice
unfoldable pub base_cells : Option ℕ → ℕ
base_cells none = 16
base_cells (some m) = m

-- Nothing is pending, or a started operation with the book's stores left.
pub data Phase (L : Layout) (area : List ℕ) (b : Book) (h : Held) : Type 0 where
  idle : h.rec.pending ≡ Idle → b.pending ≡ none → Phase L area b h
  pending :
      (t : Started L area h.rec h.work) →
      b.pending ≡
      some
      (record {
        operation = t.operation;
        left = stores_for L t.idle (log_now t.before t.idle) t.operation - t.since;
      }) →
      Phase L area b h

pub record Holding (E : Editions) (L : Layout) (n s : ℕ) (area : List ℕ) (m : Option ℕ) (b : Book) (h : Held) : Type 0 where
  pub slots_same : h.rec.slots ≡ n
  pub size_same : h.rec.size ≡ s
  pub cells_same : m ≡ some h.rec.cells
  pub index-long : length h.cells ≡ h.rec.cells
  pub genuine : Genuine L area h.rec h.cells
  pub phase : Phase L area b h
  pub switch : h.rec.switched ≡ true → E.switched ≡ true

unfoldable pub HeldGood : Editions → Layout → ℕ → ℕ → List ℕ → Option ℕ → Book → Option Held → Type 0
HeldGood E L n s area m b none = Unit
HeldGood E L n s area m b (some h) = Holding E L n s area m b h

-- The invariant of a world with its book, and the highest version told so far.
pub record Inv (E : Editions) (L : Layout) (n s : ℕ) (w : World) (b : Book) (told : ℕ) : Type 0 where
  pub bytes : Bytes w.area
  pub base : recovered L n s (base_cells w.cells) w.area ≡ some (record_from L n s (base_cells w.cells) w.area)
  pub agrees : Agrees E L n s w.area b
  pub below : told < b.next
  pub held : HeldGood E L n s w.area w.cells b w.held

-- ---- recovered records

-- the record that recovery gives is the one that the area's bytes say
pub recovered-is : (L : Layout) (n s m : ℕ) (area : List ℕ) (r : Record) → recovered L n s m area ≡ some r → r ≡ record_from L n s m area
unfolding if_none
recovered-is L n s m area r e = go (first_cause (area_causes L n s m area)) (recovered-own L n s m area r e).1
  where
    go : (c : Option Refusal) → if_none c (record_from L n s m area) ≡ some r → r ≡ record_from L n s m area
    go none p = cc
    go (some c) p = cc

-- its next version and its log do not go by the number of cells
pub next_of :
    (L : Layout) (n s m : ℕ) (area : List ℕ) (r : Record) → recovered L n s m area ≡ some r → (record_from L n s 16 area).next.0 ≡ r.next.0
next_of L n s m area r e = ap (λ (x : Record). x.next.0) (sym (recovered-is L n s m area r e))

pub log-of :
    (L : Layout) (n s m : ℕ) (area : List ℕ) (r : Record) → recovered L n s m area ≡ some r →
    log_now area (record_from L n s 16 area) ≡ log_now area r
log-of L n s m area r e = ap (log_now area) (sym (recovered-is L n s m area r e))

pub idle-of : (L : Layout) (n s m : ℕ) (area : List ℕ) (r : Record) → recovered L n s m area ≡ some r → r.pending ≡ Idle
idle-of L n s m area r e = ap (λ (x : Record). x.pending) (recovered-is L n s m area r e)

pub slots-of : (L : Layout) (n s m : ℕ) (area : List ℕ) (r : Record) → recovered L n s m area ≡ some r → r.slots ≡ n
slots-of L n s m area r e = ap (λ (x : Record). x.slots) (recovered-is L n s m area r e)

pub size_of : (L : Layout) (n s m : ℕ) (area : List ℕ) (r : Record) → recovered L n s m area ≡ some r → r.size ≡ s
size_of L n s m area r e = ap (λ (x : Record). x.size) (recovered-is L n s m area r e)

pub cells_of : (L : Layout) (n s m : ℕ) (area : List ℕ) (r : Record) → recovered L n s m area ≡ some r → r.cells ≡ m
cells_of L n s m area r e = ap (λ (x : Record). x.cells) (recovered-is L n s m area r e)

-- another way to write the geometry
pub with-geometry :
    (L : Layout) (n n' s s' m : ℕ) (area : List ℕ) (x : Option Record) → n ≡ n' → s ≡ s' → recovered L n s m area ≡ x → recovered L n' s' m area ≡ x
with-geometry L n n' s s' m area x p q e =
    subst (λ (k : ℕ). recovered L k s' m area ≡ x) p (subst (λ (k : ℕ). recovered L n k m area ≡ x) q e)

-- so a recovered record is what recovery with its own geometry gives
pub own-geometry :
    (L : Layout) (n s m : ℕ) (area : List ℕ) (r : Record) → recovered L n s m area ≡ some r →
    recovered L r.slots r.size r.cells area ≡ some r
own-geometry L n s m area r e = moved ∙ e
  where
    moved : recovered L r.slots r.size r.cells area ≡ recovered L n s m area
    moved = λ i. recovered L (slots-of L n s m area r e i) (size_of L n s m area r e i) (cells_of L n s m area r e i) area

-- a record with nothing pending is itself, its pending operation aside
pub idle-same : (r : Record) → r.pending ≡ Idle → as_recovered r ≡ unswitched r
idle-same r p = ap (with_pending (unswitched r)) (sym p)

-- what a started operation was started on
pub started-accepted : (L : Layout) (area : List ℕ) (r : Record) (work : List ℕ) (st : Started L area r work) → Accepted L st.before st.idle st.operation
started-accepted L area r work st =
    record {
      lengths = st.lengths;
      area-bytes = st.area-bytes;
      typed = st.typed;
      recovers = st.recovers;
      no-cause = st.accepted;
    }

-- ---- the edition

-- The record that is held has the edition of the head, so what a call promises at the record's edition it promises at the head's,
pub held-promise :
    (E : Editions) (L : Layout) (n s : ℕ) (area : List ℕ) (m : Option ℕ) (b : Book) (h : Held) → Holding E L n s area m b h → (P : Layout → Type 0) →
    P h.rec.edition → P L
held-promise E L n s area m b h good P p =
    subst P (recovered-edition L h.rec.slots h.rec.size h.rec.cells area (as_recovered h.rec) good.genuine.recovers) p

-- and so has the head's slot.
pub area-promise :
    (E : Editions) (L : Layout) (n s : ℕ) (w : World) (b : Book) (t : ℕ) → Inv E L n s w b t → (P : Layout → Type 0) → P (image_layout n s w.area) → P L
area-promise E L n s w b t inv P p =
    subst P (recovered-image L n s (base_cells w.cells) w.area (record_from L n s (base_cells w.cells) w.area) inv.base) p

-- ---- the invariant again

-- The invariant from a recovered record that agrees with the book.
pub rebuilt :
    (E : Editions) (L : Layout) (n s m : ℕ) (area : List ℕ) (r : Record) (held : Option Held) (b : Book) (told : ℕ) → Bytes area →
    recovered L n s m area ≡ some r → r.next.0 ≡ b.next → ((k : Key) → value_at (log_now area r) k ≡ book_entry k (b.keys k)) →
    Among E L → SlotsAmong E n s area r.map →
    told < b.next → HeldGood E L n s area (some m) b held → Inv E L n s (record { area = area; held = held; cells = some m }) b told
unfolding base_cells
rebuilt E L n s m area r held b told ab e next same own among less good =
    record {
      bytes = ab;
      base = e ∙ ap some (recovered-is L n s m area r e);
      agrees =
          record {
            next-same = next_of L n s m area r e ∙ next;
            map_same = λ k. ap (λ (log : List Placed). value_at log k) (log-of L n s m area r e) ∙ same k;
            own-among = own;
            slots-among = subst (SlotsAmong E n s area) (ap (λ (x : Record). x.map) (recovered-is L n s m area r e)) among;
          };
      below = less;
      held = good;
    }
