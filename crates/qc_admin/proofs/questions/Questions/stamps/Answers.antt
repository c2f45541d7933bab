use Rattle.std.proofs.Common.{◌≡◌, List, ap, ◌∙◌}
use Rattle.std.specs.Prelude.{Result, Ok, Err, IfOk}
use Rattle.std.specs.declared.alloc.AllocError.{AllocError}
use Rattle.qc_stamp.specs.declared.stamp.TxId.{TxId}
use Rattle.qc_epoch.specs.Vocabulary.{Question, stamp_of}
use Rattle.qc_admin.specs.Vocabulary.{stamp_at, unasked}
use Rattle.qc_admin.specs.declared.stamps.Stamps.{Stamps}
use Rattle.qc_admin.proofs.Asked.{stamp_shown}
use Rattle.qc_admin.proofs.questions.Questions.stamps.Goals as goal

-- stamps of questions that tell the same
told : (result : Result Stamps AllocError) (qs others : List Question)
    → ((tx : TxId) → stamp_of qs tx ≡ stamp_of others tx)
    → IfOk result (λ stamps. (tx : TxId) → stamp_at stamps tx ≡ stamp_of qs tx)
    → IfOk result (λ stamps. (tx : TxId) → stamp_at stamps tx ≡ stamp_of others tx)
told (Ok stamps) qs others same are = λ tx. are tx ∙ same tx
told (Err e) qs others same are = tt

pub returns : goal.returns
returns c =
    told c.stamps_in.result (unasked c.as_slice.result.now) c.args.self.now
    (λ tx. ap (λ qs. stamp_of (unasked qs) tx) c.as_slice.ensures.value
    ∙ stamp_shown c.self.inside.first tx c.self.inside.queries.items
    ∙ ap (λ qs. stamp_of qs tx) c.self.view_is)
    c.stamps_in.ensures
