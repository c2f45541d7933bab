-- What has happened at a client so far, as far as its replies are due to it.
use Rattle.std.specs.Prelude.{ℕ, ◌+◌, ◌==◌, max, Bool, true, false, cond, List, [], filter, fold, Option, None}
use Rattle.std.specs.Option.{option_map_or}
use Rattle.qc_stamp.specs.Vocabulary.{first_life}
use Rattle.qc_stamp.specs.declared.stamp.TxId.{TxId}
use Rattle.qc_entry.specs.declared.line.Line.{Line}
use Rattle.qc_entry.specs.declared.line.Op.{Op}
use Rattle.qc_entry.specs.declared.line.OwnLine.{OwnLine}
use Rattle.qc_entry.specs.declared.record.Commit.{Commit}
use Rattle.qc_entry.specs.Vocabulary.{union}
use Rattle.qc_msg.specs.declared.begun.LifeAt.{LifeAt}
use Rattle.qc_msg.specs.declared.message.Answer.{Answer}
use Rattle.qc_msg.specs.declared.message.Want.{Want}
use Rattle.qc_msg.specs.declared.message.Want.TheVariants.{Read, Append, Prepare}
use Rattle.qc_msg.specs.declared.record.Record.{Record}
use Rattle.qc_msg.specs.declared.step.Command.{Command}
use Rattle.qc_msg.specs.Vocabulary.{commit_of, first_epoch, is_life}

-- a request of the running command
pub record ClientRequest : Type 0 where
  pub number : ℕ
  pub site : ℕ
  -- the site's life that it names
  pub life : ℕ
  pub want : Want
  -- the first thing that the client took for it, if any: an answer, or that the request is lost, which is no answer
  pub taken : Option (Option Answer)

-- the log of a grant that counted, to a Read of this object
pub record ReadGrant : Type 0 where
  pub object : ℕ
  pub log : List Line

-- the transaction that a client has begun and that hasn't ended
pub record Current : Type 0 where
  pub tx : TxId
  pub epoch : ℕ
  -- the operations that were told, and an own line for each that has a response
  pub ops : List Op
  pub own : List OwnLine
  -- what its Reads were granted, and the lives of the sites in their first grants, of those grants that counted
  pub read_grants : List ReadGrant
  pub lives : List LifeAt
  -- whether a `do` was refused while appending
  pub doomed : Bool

pub record Account : Type 0 where
  pub client : ℕ
  -- whether it is up; its life: the first one, and one more for each record of a rise
  pub up : Bool
  pub life : ℕ
  -- the command that was called and has no reply yet; since it was called, its requests in asked order, and the commit
  -- record that was written
  pub command : Option Command
  pub requests : List ClientRequest
  pub written : Option Commit
  -- how many transactions began in this life
  pub count : ℕ
  -- the greatest clock of the answers that counted in this life and of the stamps
  pub clock : ℕ
  -- the greatest epoch that a counted Closed told in this life, or the first one
  pub known : ℕ
  pub current : Option Current

-- what a client's records keep: how often it rose, and its stamps

abbrev pub life_with : ℕ → Record → ℕ
life_with before r = cond (is_life r) (before + 1) before

abbrev pub clock_with : ℕ → Record → ℕ
clock_with before r = option_map_or (λ (c : Commit). max before c.stamp.clock) (commit_of r) before

-- the account of a client that rose with these records, before the record of this rise
abbrev pub account_with : ℕ → List Record → Account
account_with client kept =
    record {
      client = client;
      up = true;
      life = fold life_with first_life kept;
      command = None;
      requests = [];
      written = None;
      count = 0;
      clock = fold clock_with 0 kept;
      known = first_epoch;
      current = None;
    }

-- a new client has no records
abbrev pub new_account : ℕ → Account
new_account client = account_with client []

abbrev pub new_current : TxId → ℕ → Current
new_current tx epoch =
    record { tx = tx; epoch = epoch; ops = []; own = []; read_grants = []; lives = []; doomed = false }

-- the halves of a `do`, and a commit

abbrev pub is_read : Want → Bool
is_read (Read read) = true
is_read (Append object view own) = false
is_read Prepare = false

abbrev pub is_append : Want → Bool
is_append (Read read) = false
is_append (Append object view own) = true
is_append Prepare = false

abbrev pub is_prepare : Want → Bool
is_prepare (Read read) = false
is_prepare (Append object view own) = false
is_prepare Prepare = true

-- the command's requests of a half
abbrev pub requests_for : (Want → Bool) → Account → List ClientRequest
requests_for half d = filter (λ (q : ClientRequest). half q.want) d.requests

-- the view of an object: all that its Reads were granted
abbrev pub view_of : Current → ℕ → List Line
view_of t object =
    fold (λ (lines : List Line) (g : ReadGrant). union lines g.log) []
    (filter (λ (g : ReadGrant). g.object == object) t.read_grants)
