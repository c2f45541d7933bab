-- Where a commit record was written, or was being written as its client fell; and what each site has then that had
-- granted something to its transaction.
use Rattle.std.specs.Prelude.{◌≡◌, ◌⊎◌, ℕ, ◌+◌, true, List, [], ◌∷◌, ◌++◌, Some}
use Rattle.qc_decl.specs.Vocabulary.{is_client}
use Rattle.qc_decl.specs.declared.declaration.Declaration.{Declaration}
use Rattle.qc_entry.specs.declared.record.Commit.{Commit as CommitRecord}
use Rattle.qc_entry.specs.declared.record.Prepared.{Prepared}
use Rattle.qc_list.specs.Vocabulary.{In}
use Rattle.qc_msg.specs.Vocabulary.{Entry, by, has_granted, life_of, mail}
use Rattle.qc_msg.specs.declared.message.Answer.TheVariants.{Yes}
use Rattle.qc_msg.specs.declared.message.Envelope.{Envelope}
use Rattle.qc_msg.specs.declared.message.Message.TheVariants.{Answer, Request}
use Rattle.qc_msg.specs.declared.message.Want.TheVariants as wants
use Rattle.qc_msg.specs.declared.record.Record.TheVariants.{Commit, Prepare}
use Rattle.qc_msg.specs.declared.reply.Reply.TheVariants.{Unknown}
use Rattle.qc_msg.specs.declared.step.Fall.{Fall}
use Rattle.qc_msg.specs.declared.step.Step.{Step}
use Rattle.qc_msg.specs.declared.step.Step.TheVariants.{Fell, Told, Wrote}
use Rattle.qc_promise.specs.Vocabulary.{Current, account}
use Rattle.laws_reach.specs.Vocabulary.{records_of}

-- a client's steps write the record; or it is told Unknown, and falls as it writes it
abbrev pub AreWriting : List Step → CommitRecord → Type 0
AreWriting steps c = (steps ≡ Wrote (Commit c) ∷ [])
    ⊎ ((cause : Fall) × (steps ≡ Told Unknown ∷ Fell cause (Some (Commit c)) ∷ []))

-- the record was written by this client, or was being written, right behind the entries before: its transaction was
-- begun then, with its operations, and its stamp came next
pub record IsRecorded (decl : Declaration) (h : List Entry) (c : CommitRecord) : Type 0 where
  pub before : List Entry
  pub actor : ℕ
  pub steps : List Step
  pub after : List Entry
  pub stands : h ≡ before ++ (by actor steps ++ after)
  pub writing : AreWriting steps c
  pub client : is_client decl actor ≡ true
  pub t : Current
  pub begun : (account decl actor before).current ≡ Some t
  pub its : c.tx ≡ t.tx
  pub ops : c.ops ≡ t.ops
  pub stamp : c.stamp.clock ≡ (account decl actor before).clock + 1

-- a site has voted for the begun transaction, asked for it in the life of its first grant that counted, and has the
-- record of its promise
pub record HasPromised (h : List Entry) (t : Current) (site : ℕ) : Type 0 where
  pub vote : Envelope
  pub sent : In vote (mail h)
  pub from : vote.from ≡ site
  pub number : ℕ
  pub clock : ℕ
  pub is : vote.message ≡ Answer number (Yes clock)
  pub request : Envelope
  pub asked : In request (mail h)
  pub numbered : request.number ≡ number
  pub epoch : ℕ
  pub named : request.message ≡ Request t.tx epoch (life_of t.lives site) wants.Prepare
  pub promise : Prepared
  pub its : promise.tx ≡ t.tx
  pub stands : In (Prepare promise) (records_of h site)

-- so has each site with a grant that counted
abbrev pub HaveAllPromised : List Entry → Current → Type 0
HaveAllPromised h t = (site : ℕ) → has_granted t.lives site ≡ true → HasPromised h t site
