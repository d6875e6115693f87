-- `forgetting::forget::forget` meets its contract.
use mathlib.Core.Path.{sym, ◌∙◌}
use Rattle.index.proofs.SearchLaws.{search-inside}
use Rattle.forgetting.proofs.DeleteLaws.{forgot-at, forgot-free, forgot-full}
use Rattle.forgetting.proofs.forget.forget.Goals as goal

pub forget_at-requires : goal.forget_at-requires
forget_at-requires c =
    record {
      forget_ready = c.requires;
      inside = search-inside _ _ _ _ (sym c.search.ensures ∙ c.in-At.is);
      key_value = sym c.search.ensures ∙ c.in-At.is;
    }

pub returns-in-At : goal.returns-in-At
returns-in-At c =
    forgot-at _ _ _ _ _ _ _ (sym c.search.ensures ∙ c.in-At.is) c.forget_at.ensures

pub returns-in-Free : goal.returns-in-Free
returns-in-Free c =
    forgot-free _ _ _ _ _ _ _ (sym c.search.ensures ∙ c.in-Free.is) _ c.refused.ensures

pub returns-in-Full : goal.returns-in-Full
returns-in-Full c =
    forgot-full _ _ _ _ _ _ (sym c.search.ensures ∙ c.in-Full.is) _ c.refused-in-Full.ensures
