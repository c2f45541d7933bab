-- What an input changes of a client, as far as its transactions' statuses go.
use Rattle.std.proofs.Common.{◌≡◌, ℕ, ◌⊎◌, inl, inr, cond, List, [], ◌∷◌, ◌++◌, Option, Some, None, is_some, refl, sym}
use Rattle.std.proofs.Common.{ap, ◌∙◌, subst}
use Rattle.qc_stamp.specs.declared.stamp.TxId.{TxId}
use Rattle.qc_decl.specs.declared.declaration.Declaration.{Declaration}
use Rattle.qc_entry.specs.declared.record.Commit.{Commit}
use Rattle.qc_msg.specs.declared.begun.Begun.{Begun as BegunTransaction}
use Rattle.qc_msg.specs.declared.message.Message.TheVariants as messages
use Rattle.qc_msg.specs.declared.record.Record.TheVariants as records
use Rattle.qc_msg.specs.declared.reply.Reply.{Reply}
use Rattle.qc_msg.specs.declared.reply.Reply.TheVariants as replies
use Rattle.qc_msg.specs.declared.step.Input.{Input}
use Rattle.qc_msg.specs.declared.turn.Turn.{Turn}
use Rattle.qc_msg.specs.Vocabulary.{decisions, sending}
use Rattle.std.specs.List.{AllByRecursion as Every}
use Rattle.qc_commit.specs.Vocabulary.{DeskMove, commit_of}
use Rattle.qc_front.specs.Vocabulary.{FrontMove, ended, next_tx}
use Rattle.qc_client.specs.declared.client.Client.{Client}
use Rattle.qc_client.specs.Vocabulary.{ClientMove, by_desk, by_front, client_takes, moved}
use Rattle.laws_turns.proofs.DealingParts.{IsAbort}
use Rattle.laws_turns.proofs.HandMoves.{IsHandMove}
use Rattle.laws_reach.proofs.TakesCases.{takes_cases}
use Rattle.laws_turns.proofs.FrontGoesOn.{FrontKind, IsRequestFor, ToldNeutral}
use Rattle.laws_turns.proofs.TurnsGoOn.{IsNoInquiry, NoInquiries, request_asks}
use Rattle.qc_list.proofs.Members.{every-weaker}
use Rattle.qc_msg.specs.declared.message.Outcome.{Outcome}
use Rattle.qc_msg.specs.declared.message.Outcome.TheVariants as outcomes
use Rattle.qc_msg.specs.declared.turn.Posting.{Posting}
use Rattle.std.specs.Prelude.{map}
use Rattle.laws_turns.proofs.StatusInputs.{page_of}
use Rattle.laws_turns.proofs.Statuses.{Page}

pub record WritesOne (p q : Page) (turn : Turn) : Type 0 where
  pub commit : Commit
  pub write : turn.write ≡ Some (records.Commit commit)
  pub commits : q.commits ≡ p.commits ++ commit ∷ []

pub record WritesNone (p q : Page) (turn : Turn) : Type 0 where
  pub write : turn.write ≡ None
  pub commits : q.commits ≡ p.commits

pub record Changes (p q : Page) (turn : Turn) : Type 0 where
  pub client : q.client ≡ p.client
  pub life : q.life ≡ p.life
  pub written : WritesNone p q turn ⊎ WritesOne p q turn
  pub begins : (x : TxId) → turn.told ≡ Some (replies.Began x) → x.life ≡ p.life
  pub asks : NoInquiries turn.sends

-- a client's requests and verdicts ask nobody how a transaction stands

requests_ask : (name : Option TxId) (ps : List Posting) → Every (λ (p : Posting). IsRequestFor name p.message) ps
    → NoInquiries ps
requests_ask name ps all = every-weaker (λ (p : Posting). IsRequestFor name p.message)
    (λ (p : Posting). IsNoInquiry p.message) (λ p. request_asks name p.message) ps all

verdicts_ask : (b : BegunTransaction) (v : Outcome) → NoInquiries (decisions b v)
verdicts_ask b v = over b.asked where
  over : (sites : List ℕ) → NoInquiries (map
      (λ (site : ℕ). record { to = site; message = messages.Decision b.tx v }) sites)
  over [] = tt
  over (site ∷ sites) = (tt, over sites)

-- none begins by a reply that ends one or none

neutral_begins : (name : Option TxId) (o : Option Reply) (x : TxId) → ToldNeutral name o → o ≡ Some (replies.Began x)
    → ⊥
neutral_begins name o x told is = subst (ToldNeutral name) is told

abort_begins : (r : Reply) (x : TxId) → IsAbort r → Some r ≡ Some (replies.Began x) → ⊥
abort_begins r x abort is = let same : r ≡ replies.Began x = cc in subst IsAbort same abort

module _ (decl : Declaration) (c : Client) where
  abbrev To : ClientMove → Type 0
  To m = Changes (page_of c) (page_of m.client) m.turn

  still : (turn : Turn) → turn.write ≡ None → turn.told ≡ None → NoInquiries turn.sends → To (moved c turn)
  still turn unwritten untold asks = record {
    asks = asks;
    client = refl;
    life = refl;
    written = inl (record { write = unwritten; commits = refl });
    begins = λ x is. absurd (let no : None ≡ Some (replies.Began x) = sym untold ∙ is in let never : ⊥ = cc in never);
  }

  front_to : (m : FrontMove) → FrontKind c.front m → To (by_front c m)
  front_to m (inl g) = record {
    client = g.counts.client;
    life = g.counts.life;
    written = inl (record { write = g.write; commits = refl });
    begins = λ x is. absurd (neutral_begins _ m.turn.told x g.told is);
    asks = requests_ask _ m.turn.sends g.sends;
  }
  front_to m (inr (inl b)) = record {
    client = b.client;
    life = b.life;
    written = inl (record { write = ap (λ (t : Turn). t.write) b.turn; commits = refl });
    begins = λ x is. (let same : Some (replies.Began (next_tx c.front)) ≡ Some (replies.Began x) =
        sym (ap (λ (t : Turn). t.told) b.turn) ∙ is in
        let one : next_tx c.front ≡ x = cc in sym (ap (λ (t : TxId). t.life) one));
    asks = subst NoInquiries (sym (ap (λ (t : Turn). t.sends) b.turn)) tt;
  }
  front_to m (inr (inr g)) = record {
    client = g.counts.client;
    life = g.counts.life;
    written = inl (record { write = g.write; commits = refl });
    begins = λ x is. absurd (abort_begins g.reply x g.aborts (sym g.told ∙ is));
    asks = subst NoInquiries (sym g.sends) (verdicts_ask g.begun outcomes.Aborted);
  }

  desk_to : (b : BegunTransaction) (m : DeskMove) → IsHandMove c.desk b m → To (by_desk c m)
  desk_to b m (inl v) = subst (λ (o : Option Reply). Changes (page_of c)
      (page_of (record {
        front = cond (is_some o) (ended c.front m.desk.clock.value m.desk.epoch) c.front;
        desk = m.desk;
      })) m.turn) (sym v.told) (record {
        client = refl;
        life = refl;
        written = inl (record { write = v.write; commits = v.commits });
        begins =
            λ x is. absurd (let no : None ≡ Some (replies.Began x) = sym v.told ∙ is in let never : ⊥ = cc in never);
        asks = requests_ask (Some b.tx) m.turn.sends v.sends;
      })
  desk_to b m (inr (inl r)) = subst (λ (o : Option Reply). Changes (page_of c)
      (page_of (record {
        front = cond (is_some o) (ended c.front m.desk.clock.value m.desk.epoch) c.front;
        desk = m.desk;
      })) m.turn) (sym (ap (λ (t : Turn). t.told) r.turn)) (record {
        client = refl;
        life = refl;
        written = inr (record {
          commit = commit_of r.stamp b;
          write = ap (λ (t : Turn). t.write) r.turn;
          commits = r.commits;
        });
        asks =
            subst NoInquiries (sym (ap (λ (t : Turn). t.sends) r.turn)) (verdicts_ask b (outcomes.Committed r.stamp));
        begins = λ x is. absurd (let no : Some (replies.Committed r.stamp) ≡ Some (replies.Began x) =
            sym (ap (λ (t : Turn). t.told) r.turn) ∙ is in let never : ⊥ = cc in never);
      })
  desk_to b m (inr (inr a)) = subst (λ (o : Option Reply). Changes (page_of c)
      (page_of (record {
        front = cond (is_some o) (ended c.front m.desk.clock.value m.desk.epoch) c.front;
        desk = m.desk;
      })) m.turn) (sym (ap (λ (t : Turn). t.told) a.turn)) (record {
        client = refl;
        life = refl;
        written = inl (record { write = ap (λ (t : Turn). t.write) a.turn; commits = a.commits });
        asks = subst NoInquiries (sym (ap (λ (t : Turn). t.sends) a.turn)) (verdicts_ask b outcomes.Aborted);
        begins = λ x is. absurd (let no : Some (replies.Aborted a.why) ≡ Some (replies.Began x) =
            sym (ap (λ (t : Turn). t.told) a.turn) ∙ is in let never : ⊥ = cc in never);
      })

  pub input_changes : (g : Input) → Changes (page_of c) (page_of (client_takes decl c g).client)
      (client_takes decl c g).turn
  input_changes g = takes_cases decl c To front_to desk_to (λ ps none. still (sending ps) refl refl none) g

-- the numbers of its messages change nothing of it
