-- What a client waits for while it commits, and what a site has then.
use Rattle.std.specs.Prelude.{◌≡◌, true, List, None}
use Rattle.qc_stamp.specs.declared.stamp.TxId.{TxId}
use Rattle.qc_list.specs.Vocabulary.{In}
use Rattle.qc_lock.specs.Vocabulary.{is_held}
use Rattle.qc_msg.specs.declared.message.Want.TheVariants.{Prepare}
use Rattle.qc_msg.specs.Vocabulary.{Deed}
use Rattle.qc_promise.specs.Vocabulary.{Account, ClientRequest, fits_record, held_shown, promise_due}

-- a request for a promise, of the running command, for which nothing was taken yet
pub record IsOpenVote (d : Account) (q : ClientRequest) : Type 0 where
  pub among : In q d.requests
  pub want : q.want ≡ Prepare
  pub untaken : q.taken ≡ None

-- the transaction holds something at the site whose deeds these are, and what the site would promise of it fits a
-- record
pub record IsRemembered (ds : List Deed) (tx : TxId) : Type 0 where
  pub held : is_held (held_shown ds) tx ≡ true
  pub fits : fits_record (promise_due ds tx) ≡ true
