-- An item of a bundle, as its bytes give it (src/bundle.rt).
use Rattle.std.specs.Prelude.{ℕ, ◌+◌, ◌*◌, ◌-◌, ◌<◌, ◌≤◌, ◌≡◌, Bool, true, false, List, ltb, length, get_or, take, drop}
use Rattle.std.proofs.Math.Path.{sym, ap}
use Rattle.std.proofs.Common.{◌∙◌, arith, length-drop, take_all, lt-ltb, le-ltb}
use Rattle.std.proofs.lemmas.List.{drop-drop}
use Rattle.word.specs.Number.{number_of}
use Rattle.segment.specs.Choice.{pick}
use Rattle.segment.proofs.Choice.{pick_true, pick-false}
use Rattle.segment.specs.declared.Key.{Key}
use Rattle.images.specs.declared.bundle.Header.{Header}

-- the number in w bytes at an offset
abbrev pub number_at : ℕ → List ℕ → ℕ → ℕ
number_at w s at = number_of (take w (drop at s))

abbrev pub header_of : List ℕ → Header
header_of item =
    record {
      slots = get_or item 0 0;
      size = number_at 2 item 1;
      cells = number_at 2 item 3;
      area = number_at 4 item 5;
      stored = number_at 4 item 9;
      name = get_or item 13 0;
      order = get_or item 14 0;
      keys = get_or item 15 0;
    }

abbrev pub key_at : List ℕ → ℕ → Key
key_at keys at = record { table = number_at 2 keys at; key = number_at 4 keys (at + 2) }

abbrev pub item_length : Header → ℕ
item_length h = 16 + h.name + h.order + h.stored + 6 * h.keys

-- ---- the parts of an item, one behind the other from the end of its header on

abbrev pub name_in : List ℕ → List ℕ
name_in item = take (header_of item).name (drop 16 item)

abbrev pub order_in : List ℕ → List ℕ
order_in item = let h = header_of item in take h.order (drop (16 + h.name) item)

abbrev pub stored_in : List ℕ → List ℕ
stored_in item = let h = header_of item in take h.stored (drop (16 + h.name + h.order) item)

abbrev pub keys_in : List ℕ → List ℕ
keys_in item = let h = header_of item in drop (16 + h.name + h.order + h.stored) item

-- Whether an item lacks a part: its header, or what that says.
unfoldable pub lacks_part : List ℕ → Bool
lacks_part item = pick (ltb (length item) 16) true (ltb (length item) (item_length (header_of item)))

-- Where the item at a place ends; the bundle's end where it lacks a part of the item.
unfoldable pub item_end : List ℕ → ℕ → ℕ
item_end bundle at =
    let left = length bundle - at in
    let item = item_length (header_of (drop at bundle)) in
    pick (ltb left 16) (length bundle) (pick (ltb left item) (length bundle) (at + item))

-- ---- its laws

-- the part from a place on, as the code cuts it
pub rest_all : (part : List ℕ) (count : ℕ) → take (length part - count) (drop count part) ≡ drop count part
rest_all part count = take_all (length part - count) (drop count part) (omega (arith, length-drop count part))

-- what is lacking, at each test

pub lacks-header : (item : List ℕ) → length item < 16 → true ≡ lacks_part item
unfolding lacks_part
lacks-header item h = sym (pick_true (ltb (length item) 16) _ _ (lt-ltb _ _ h))

module _ (item : List ℕ) (n : ℕ) (its : n ≡ item_length (header_of item)) (has : 16 ≤ length item) where
  by-rest : ltb (length item) n ≡ lacks_part item
  unfolding lacks_part
  by-rest = ap (λ (m : ℕ). ltb (length item) m) its ∙ sym (pick-false (ltb (length item) 16) _ _ (le-ltb (length item) 16 has))

  pub lacks-rest : length item < n → true ≡ lacks_part item
  lacks-rest h = sym (lt-ltb (length item) n h) ∙ by-rest

  pub lacks-none : n ≤ length item → false ≡ lacks_part item
  lacks-none h = sym (le-ltb (length item) n h) ∙ by-rest

-- the parts as they are cut off one after the other: h is the header, r₁ the bytes behind it, r₂ and r₃ those behind the name and the order
module _ (item : List ℕ) (h : Header) (own : h ≡ header_of item) (r₁ r₂ r₃ : List ℕ) (behind : r₁ ≡ drop 16 item) (second : r₂ ≡ drop h.name r₁)
    (third : r₃ ≡ drop h.order r₂) where
  from-name : r₂ ≡ drop (16 + h.name) item
  from-name = second ∙ ap (λ (s : List ℕ). drop h.name s) behind ∙ drop-drop h.name 16 item

  from-order : r₃ ≡ drop (16 + h.name + h.order) item
  from-order = third ∙ ap (λ (s : List ℕ). drop h.order s) from-name ∙ drop-drop h.order (16 + h.name) item

  pub name-cut : {s : List ℕ} → s ≡ take h.name r₁ → s ≡ name_in item
  name-cut e = e ∙ ap (λ (s : List ℕ). take h.name s) behind ∙ ap (λ (g : Header). take g.name (drop 16 item)) own

  pub order-cut : {s : List ℕ} → s ≡ take h.order r₂ → s ≡ order_in item
  order-cut e = e ∙ ap (λ (s : List ℕ). take h.order s) from-name ∙ ap (λ (g : Header). take g.order (drop (16 + g.name) item)) own

  pub stored-cut : {s : List ℕ} → s ≡ take h.stored r₃ → s ≡ stored_in item
  stored-cut e = e ∙ ap (λ (s : List ℕ). take h.stored s) from-order ∙ ap (λ (g : Header). take g.stored (drop (16 + g.name + g.order) item)) own

  pub keys-cut : {s : List ℕ} → s ≡ drop h.stored r₃ → s ≡ keys_in item
  keys-cut e =
      e ∙ ap (λ (s : List ℕ). drop h.stored s) from-order ∙ drop-drop h.stored (16 + h.name + h.order) item
      ∙ ap (λ (g : Header). drop (16 + g.name + g.order + g.stored) item) own

-- the end at each test

module _ (bundle : List ℕ) (at : ℕ) where
  pub end-no-header : length bundle - at < 16 → length bundle ≡ item_end bundle at
  unfolding item_end
  end-no-header h = sym (pick_true (ltb (length bundle - at) 16) _ _ (lt-ltb _ _ h))

  module _ (item : ℕ) (its : item ≡ item_length (header_of (take (length bundle - at) (drop at bundle)))) (has : 16 ≤ length bundle - at) where
    whole : item ≡ item_length (header_of (drop at bundle))
    whole = its ∙ ap (λ (s : List ℕ). item_length (header_of s)) (rest_all bundle at)

    by_length : pick (ltb (length bundle - at) item) (length bundle) (at + item) ≡ item_end bundle at
    unfolding item_end
    by_length =
        ap (λ (n : ℕ). pick (ltb (length bundle - at) n) (length bundle) (at + n)) whole
        ∙ sym (pick-false (ltb (length bundle - at) 16) _ _ (le-ltb (length bundle - at) 16 has))

    pub end_short : length bundle - at < item → length bundle ≡ item_end bundle at
    end_short h = sym (pick_true (ltb (length bundle - at) item) _ _ (lt-ltb (length bundle - at) item h)) ∙ by_length

    pub end_whole : item ≤ length bundle - at → at + item ≡ item_end bundle at
    end_whole h = sym (pick-false (ltb (length bundle - at) item) _ _ (le-ltb (length bundle - at) item h)) ∙ by_length
