-- What a site's deed does to what its records show.
use Rattle.std.specs.Prelude.{ℕ}
use Rattle.std.specs.Option.{option_map_or}
use Rattle.qc_msg.specs.Vocabulary.{Deed, written_in}
use Rattle.qc_promise.specs.Vocabulary.{epoch_by, life_by}

abbrev pub life_at : ℕ → Deed → ℕ
life_at life d = option_map_or (life_by life) (written_in d) life

abbrev pub epoch_at : ℕ → Deed → ℕ
epoch_at epoch d = option_map_or (epoch_by epoch) (written_in d) epoch
