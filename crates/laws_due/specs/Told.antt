-- The client's front end and its begun transaction, as the account of its deeds tells them.
use Rattle.std.specs.Prelude.{◌≡◌, ℕ, Bool, true, List, slice_get, is_none, Option, Some, None}
use Rattle.qc_view.specs.declared.view.View.{View}
use Rattle.qc_msg.specs.declared.begun.Begun.{Begun}
use Rattle.qc_msg.specs.declared.message.Want.{Want}
use Rattle.qc_front.specs.declared.doing.Doing.{Doing}
use Rattle.qc_front.specs.declared.front.Front.{Front}
use Rattle.qc_front.specs.declared.transaction.Transaction.{Transaction}
use Rattle.qc_promise.specs.Vocabulary.{Account, ClientRequest, Current, view_of}

-- the begun transaction. The sites that it asked are the client's alone; its views are told by what its Reads were
-- granted, and by its own events, which `FrontHolds` has

abbrev pub begun_of : Current → List ℕ → Begun
begun_of t asked =
    record { tx = t.tx; epoch = t.epoch; ops = t.ops; lives = t.lives; asked = asked; doomed = t.doomed }

abbrev pub transaction_of : Current → List ℕ → List View → Transaction
transaction_of t asked views = record { begun = begun_of t asked; views = views; own = t.own }

pub record IsBegun (t : Current) (x : Transaction) : Type 0 where
  pub is : x ≡ transaction_of t x.begun.asked x.views
  pub logs : (object : ℕ) (v : View) → slice_get x.views object ≡ Some v → v.log ≡ view_of t object

abbrev pub AreBegun : Option Current → Option Transaction → Type 0
AreBegun None None = Unit {0}
AreBegun None (Some x) = ⊥
AreBegun (Some t) None = ⊥
AreBegun (Some t) (Some x) = IsBegun t x

-- the front end, while no commit runs
abbrev pub front_of : Account → Option Transaction → Doing → Front
front_of d transaction doing =
    record {
      client = d.client;
      life = d.life;
      count = d.count;
      clock = record { value = d.clock };
      epoch = d.known;
      transaction = transaction;
      doing = doing;
    }

-- an open request is of this half
abbrev pub IsOpenIn : (Want → Bool) → ClientRequest → Type 0
IsOpenIn half q = is_none q.taken ≡ true → half q.want ≡ true
