-- From what the code decides and lays down to the promise of a delete.
use Rattle.std.specs.Prelude.{ℕ, ◌+◌, ◌*◌, ◌/◌, ◌^◌, ◌≤◌, ◌<◌, ◌≡◌, List, ◌++◌, replicate}
use Rattle.std.proofs.Math.Path.{refl, sym, ap}
use Rattle.std.proofs.Common.{◌∙◌, subst, zero-add, arith, length-append}
use Rattle.std.proofs.Math.Bool.{Bool, true, false, not}
use Rattle.std.proofs.Math.Option.{Option, none, some}
use Rattle.std.proofs.Math.Dec.{ltb, leb}
use Rattle.std.proofs.Math.ListN.{length}
use Rattle.std.proofs.Math.Seq.{sets, length-sets}
use borrow.Author.Tests.{lt-ltb, le-ltb, leb-true, leb-false, not-false, eqb-false, ltb-false, ltb-true}
use Rattle.word.specs.Laws.{sets-append}
use Rattle.segment.specs.Layout.{Layout, digest_size}
use Rattle.segment.specs.Digest.{encoded_digest}
use Rattle.segment.proofs.DigestLaws.{length-encoded_digest}
use Rattle.segment.specs.declared.Digest.{Digest}
use Rattle.record.specs.declared.Pending.TheVariants.{Forget}
use Rattle.record.specs.Answered.{Start}
use Rattle.record.specs.declared.Record.{Record}
use Rattle.model.specs.Operations.{new_slot, digest_with, next_after}
use Rattle.starting.specs.Stores.{head_stores}
use Rattle.starting.specs.Answer.{started_with}
use Rattle.segment.specs.Copied.{Copied}
use Rattle.forgetting.specs.Forgetting.{forgetting_with, forgot_begun}

-- ---- the work buffer filled, and the answer

pub forgot-filled :
    (L : Layout) (r : Record) (victims : ℕ) (work bytes : List ℕ) (d : Digest) (work₁ work₂ : List ℕ) (n slot left : ℕ) (a : Start) →
    d ≡ digest_with r victims (next_after r) → work₁ ≡ sets work 0 (encoded_digest L d) → Copied bytes work₁ (digest_size L) work₂ n →
    slot ≡ new_slot r → left ≡ head_stores r.size n → a ≡ started_with r (Forget slot victims n left) left →
    record { start = a; work = work₂ } ≡ forgot_begun L r victims work bytes
unfolding forgot_begun
forgot-filled L r victims work bytes d work₁ work₂ n slot left a de e₁ p s t is = λ i. record { start = start i; work = filled i }
  where
    start : a ≡ forgetting_with r victims (new_slot r) (digest_size L + length bytes)
    start = is ∙ (λ i. started_with r (Forget slot victims n (t i)) (t i)) ∙ λ i. forgetting_with r victims (s i) (p.behind i)

    front : work₁ ≡ sets work 0 (encoded_digest L (digest_with r victims (next_after r)))
    front = e₁ ∙ ap (λ (x : Digest). sets work 0 (encoded_digest L x)) de

    filled : work₂ ≡ sets work 0 (encoded_digest L (digest_with r victims (next_after r)) ++ bytes)
    filled =
        p.stored
        ∙ ap (λ (w : List ℕ). sets w (digest_size L) bytes) front
        ∙ ap (λ (k : ℕ). sets (sets work 0 (encoded_digest L (digest_with r victims (next_after r)))) k bytes)
        (sym (zero-add _ ∙ length-encoded_digest L (digest_with r victims (next_after r))))
        ∙ sym (sets-append work 0 (encoded_digest L (digest_with r victims (next_after r))) bytes)
