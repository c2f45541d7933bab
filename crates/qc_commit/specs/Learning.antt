-- What a desk learns from what comes of a Prepare.
use Rattle.std.specs.Prelude.{option_and_then, unwrap_or, ℕ, Option}
use Rattle.qc_msg.specs.declared.message.Answer.{Answer}
use Rattle.qc_msg.specs.Vocabulary.{closed_in, promised_in}

-- the clock that a promise tells, or 0
abbrev pub promised : Option Answer → ℕ
promised answer = unwrap_or (option_and_then promised_in answer) 0

-- the epoch that a closed site tells, or 0
abbrev pub closed : Option Answer → ℕ
closed answer = unwrap_or (option_and_then closed_in answer) 0
