-- Laws of: Text that is put within so many bytes.
use Rattle.std.specs.Prelude.{ℕ, zero, suc, ◌+◌, ◌^◌, ◌≤◌, ◌<◌, ◌≡◌, List, [], ◌++◌, length}
use Rattle.std.proofs.Common.{subst, arith}
use Rattle.text.specs.Digits.{digits, digits-length}
use Rattle.text.specs.Put.{Put, put-none, put_then}
use Rattle.report.specs.Report.{field}
use Rattle.report.specs.PutLaws.{PutWithin}

-- a number below a power of ten has no more digits than the exponent says
pub number-room : (most n : ℕ) → 0 < most → n < 10 ^ most → length (digits n) ≤ most
number-room zero n h l = absurd (omega arith)
number-room (suc k) n h l = digits-length k n l

pub version-room : (n : ℕ) → n < 2 ^ 64 → length (digits n) ≤ 20
version-room n h = digits-length 19 n (omega arith)

-- a number whose digits take no more than so many bytes, and a word
pub field-within : {out out₁ out₂ : List ℕ} {at e₁ e₂ room : ℕ} {word : List ℕ} (n : ℕ) → length (digits n) ≤ room → Put out out₁ at e₁ (digits n)
    → Put out₁ out₂ e₁ e₂ word → PutWithin out out₂ at e₂ (field n word) (room + length word)
field-within n h p q = record { put = put_then p q; within = omega (arith, h, p.end, q.end) }

-- one text after another
pub within-then : {out out₁ out₂ : List ℕ} {at e₁ e₂ a b : ℕ} {s t : List ℕ} → PutWithin out out₁ at e₁ s a → PutWithin out₁ out₂ e₁ e₂ t b
    → PutWithin out out₂ at e₂ (s ++ t) (a + b)
within-then p q = record { put = put_then p.put q.put; within = omega (arith, p.within, q.within) }

pub within-put : {out out' : List ℕ} {at end : ℕ} {text : List ℕ} → Put out out' at end text → PutWithin out out' at end text (length text)
within-put p = record { put = p; within = omega (arith, p.end) }

pub within_more : {out out' : List ℕ} {at end a b : ℕ} {text : List ℕ} → a ≤ b → PutWithin out out' at end text a → PutWithin out out' at end text b
within_more l p = record { put = p.put; within = omega (arith, p.within) }

pub within_same : {out out' : List ℕ} {at end room : ℕ} {s t : List ℕ} → s ≡ t → PutWithin out out' at end s room → PutWithin out out' at end t room
within_same {out} {out'} {at} {end} {room} same p = subst (λ (text : List ℕ). PutWithin out out' at end text room) same p

pub within_none : (out : List ℕ) (at room : ℕ) → PutWithin out out at at [] room
within_none out at room = record { put = put-none out at; within = omega arith }
