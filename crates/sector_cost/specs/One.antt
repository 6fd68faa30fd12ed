-- At scale 1 the sectors around a changed one are as they were reset.
use Rattle.std.specs.Prelude.{ℕ, ◌≡◌, refl, List}
use Rattle.std.proofs.Common.{sym, ◌∙◌}
use Rattle.laws.specs.Fold.{pick_keeps, run, run_still}
use Rattle.model.specs.declared.Measures.{Measures}
use Rattle.model.specs.Scaling.{scale_sector}
use Rattle.model.specs.Change.{nearby, is_there, reset_sector, for_nearby, rescaled}
use Rattle.model.specs.Nearby.{at_nearby}
use Rattle.model.specs.ScaleOne.{sector_one}

pub rescaled_reset : (m : Measures) (base : List ℕ) (t : ℕ) (xs : List ℕ) {ys : List ℕ} → m.scale ≡ 1 → ys ≡ run (at_nearby m t (reset_sector base)) 9 xs → ys ≡ rescaled m base t xs
unfolding rescaled for_nearby
rescaled_reset m base t xs one e = e ∙ sym (run_still (at_nearby m t (scale_sector m base)) 9 _ (λ k zs. pick_keeps (λ (ws : List ℕ). ws ≡ zs) (is_there m t k) (scale_sector m base (nearby m t k) zs) zs (sector_one m one base (nearby m t k) zs) refl))
