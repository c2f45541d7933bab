-- Among messages no two final verdicts about one transaction differ: what atomic commitment promises to sites.
use Rattle.std.specs.Prelude.{◌≡◌, true, List}
use Rattle.qc_list.specs.Vocabulary.{In}
use Rattle.qc_msg.specs.declared.message.Envelope.{Envelope}
use Rattle.qc_msg.specs.declared.message.Message.TheVariants.{Decision}
use Rattle.qc_msg.specs.declared.message.Outcome.{Outcome}
use Rattle.qc_promise.specs.Vocabulary.{is_final}
use Rattle.qc_stamp.specs.declared.stamp.TxId.{TxId}

abbrev pub AgreeOnVerdicts : List Envelope → Type 0
AgreeOnVerdicts ms =
    (e f : Envelope) (tx : TxId) (v w : Outcome) → In e ms → In f ms
    → e.message ≡ Decision tx v → f.message ≡ Decision tx w → is_final v ≡ true → is_final w ≡ true → v ≡ w
