-- What a client keeps of its transactions: its name, how many it began, its records, and the begun one.
use Rattle.std.specs.Prelude.{ℕ, List, Option, option_map}
use Rattle.qc_client.specs.declared.client.Client.{Client}
use Rattle.qc_entry.specs.declared.record.Commit.{Commit}
use Rattle.qc_front.specs.declared.front.Front.{Front}
use Rattle.qc_front.specs.declared.transaction.Transaction.{Transaction}
use Rattle.qc_msg.specs.declared.begun.Begun.{Begun}

pub record Book : Type 0 where
  pub client : ℕ
  pub life : ℕ
  pub count : ℕ
  pub commits : List Commit
  pub begun : Option Begun

abbrev pub begun_in : Option Transaction → Option Begun
begun_in t = option_map (λ (t : Transaction). t.begun) t

-- a front end, with a desk's records
abbrev pub book_with : Front → List Commit → Book
book_with front commits =
    record {
      client = front.client;
      life = front.life;
      count = front.count;
      commits = commits;
      begun = begun_in front.transaction;
    }

abbrev pub book_of : Client → Book
book_of c = book_with c.front c.desk.commits
