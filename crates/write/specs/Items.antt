-- The items of writing a certificate: 1 to 13, 25 and 26, then 19. Assumes nothing.
use Rattle.std.specs.Prelude.{◌≡◌, ◌≢◌, List, ℕ, ◌≤◌, ◌<◌, length, ℤ}
use Rattle.model.specs.Certificate.{certificate_length}
use Rattle.model.specs.Jobs.{start_item}
use Rattle.model.specs.Writing.{write_item}
use Rattle.job_items.specs.Items.{last_start, last_yes, last_none}

module _ (table r f : List ℕ) (work : List ℤ) (z : List ℕ) where
  pub write_start : start_item table r f work ≢ 0 → write_item table r f work z ≡ start_item table r f work
  unfolding write_item
  write_start = last_start table r f work 19 (length z) (certificate_length r f)

  pub write_room : start_item table r f work ≡ 0 → length z < certificate_length r f → write_item table r f work z ≡ 19
  unfolding write_item
  write_room = last_yes table r f work 19 (length z) (certificate_length r f)

  pub write_none : start_item table r f work ≡ 0 → certificate_length r f ≤ length z → write_item table r f work z ≡ 0
  unfolding write_item
  write_none = last_none table r f work 19 (length z) (certificate_length r f)
