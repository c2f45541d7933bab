-- An input of a client that is tied to its account keeps its sight and the account in agreement; where a reply is due
-- then, the client waits for nothing.
use Rattle.std.proofs.Common.{◌≡◌, ℕ, false, List, [], ◌∷◌, ◌++◌, inl, fold, Some, None, refl, sym, ap, ◌∙◌, subst}
use Rattle.qc_stamp.specs.declared.stamp.TxId.{TxId}
use Rattle.qc_list.specs.Vocabulary.{In}
use Rattle.qc_list.proofs.Members.{In-first, In-last, In-second}
use Rattle.qc_decl.specs.declared.declaration.Declaration.{Declaration}
use Rattle.qc_entry.specs.declared.record.Commit.{Commit}
use Rattle.qc_msg.specs.declared.message.Answer.{Answer}
use Rattle.qc_msg.specs.declared.message.Message.{Message}
use Rattle.qc_msg.specs.declared.message.Message.TheVariants as messages
use Rattle.qc_msg.specs.declared.reply.Reply.{Reply}
use Rattle.qc_msg.specs.declared.step.Command.TheVariants as commands
use Rattle.qc_msg.specs.declared.step.Input.{Input}
use Rattle.qc_msg.specs.declared.step.Input.TheVariants as inputs
use Rattle.qc_msg.specs.Vocabulary.{Deed, Sends, Takes}
use Rattle.qc_client.specs.declared.client.Client.{Client}
use Rattle.qc_front.specs.Vocabulary.{is_request}
use Rattle.qc_promise.specs.Vocabulary.{Account, ClientRequest, IsFreeFor, Sight, Status, account_at, account_taken}
use Rattle.qc_promise.specs.Vocabulary.{counted, new_account, running_row, sight_sent, sight_taken}
use Rattle.laws_due.specs.Vocabulary.{IsAwaited, Ties, appends, reads, rests, votes}
use Rattle.laws_due.proofs.Awaited.{open_requests_were_sent}
use Rattle.laws_atomic.proofs.Counted.{IsOpen, counts}
use Rattle.laws_atomic.proofs.Waiting.{Goes, goes_of, unwritten_of}
use Rattle.laws_atomic.proofs.Waiting.{asks_none}
use Rattle.laws_atomic.proofs.Ended.{counted_goes, none_open}
use Rattle.laws_atomic.proofs.Founded.{AreFounded}
use Rattle.laws_atomic.proofs.Seeing.{Sees}
use Rattle.laws_atomic.proofs.SightsTaken.{answer_sees, called_sees, lost_sees}

-- nothing is waited for
abbrev pub IsFree : Sight → Type 0
IsFree s = (n : ℕ) → In n s.waiting → ⊥

pub sent_free : (s : Sight) (number : ℕ) (message : Message) → is_request message ≡ false → IsFree s
    → IsFree (sight_sent s number message)
sent_free s number (messages.Request tx epoch life want) is free = absurd (let never : ⊥ = cc in never)
sent_free s number (messages.Answer to answer) is free = free
sent_free s number (messages.Decision tx verdict) is free = free
sent_free s number (messages.Inquiry tx) is free = free
sent_free s number (messages.Ask tx) is free = free
sent_free s number (messages.Close epoch) is free = free
sent_free s number (messages.Install start) is free = free

-- where no command runs, none has requests
idle_asks : (decl : Declaration) (d : Account) (c : Client) → Ties decl d c → d.command ≡ None → d.requests ≡ []
idle_asks decl d c (rests r) none = r.requests
idle_asks decl d c (reads r) none = absurd
    (let is : d.command ≡ Some (commands.Do r.object r.inv) = r.runs.command in let never : ⊥ = cc in never)
idle_asks decl d c (appends r) none = absurd
    (let is : d.command ≡ Some (commands.Do r.object r.inv) = r.runs.command in let never : ⊥ = cc in never)
idle_asks decl d c (votes r) none = absurd
    (let is : d.command ≡ Some commands.Commit = r.command in let never : ⊥ = cc in never)

heard_goes : (decl : Declaration) (d : Account) (g : Input) → Goes decl d → Goes decl (account_taken d g)
heard_goes decl d (inputs.Called command) w = asks_none refl
heard_goes decl d (inputs.Got e) w = by e.message
  where
    by : (m : Message) → Goes decl (account_taken d
        (inputs.Got (record { number = e.number; from = e.from; to = e.to; message = m })))
    by (messages.Request tx epoch life want) = w
    by (messages.Answer to answer) = counted_goes decl to (Some answer) d w
    by (messages.Decision tx verdict) = w
    by (messages.Inquiry tx) = w
    by (messages.Ask tx) = w
    by (messages.Close epoch) = w
    by (messages.Install start) = w
heard_goes decl d (inputs.Lost n) w = counted_goes decl n None d w

module _ (decl : Declaration) (client : ℕ) (commits : List Commit) (tx : TxId) (ds : List Deed) (c : Client) (s : Sight)
    (wrote : List Commit) (st : Status) where
  abbrev account_of : Account
  account_of = fold (account_at decl) (new_account client) ds

  module _ (tied : Ties decl account_of c) (w : Sees commits tx account_of s wrote st) where
    free_of : account_of.command ≡ None → IsFree s
    free_of none m among =
        let o : IsOpen m account_of.requests = w.waiting m among in
        subst (λ (qs : List ClientRequest). In o.request qs) (idle_asks decl account_of c tied none) o.among

    pub take : (g : Input) → IsFreeFor account_of g → AreFounded commits (ds ++ Takes g ∷ [])
        → Sees commits tx (account_taken account_of g) (sight_taken tx s g) wrote st
    take (inputs.Called command) may f = called_sees commits tx account_of s wrote st w command (free_of may)
        (unwritten_of decl account_of c tied)
    take (inputs.Got e) may f = by e.message refl
      where
        by : (m : Message) → e.message ≡ m
            → Sees commits tx (account_taken account_of
            (inputs.Got (record { number = e.number; from = e.from; to = e.to; message = m })))
            (sight_taken tx s (inputs.Got (record { number = e.number; from = e.from; to = e.to; message = m })))
            wrote st
        by (messages.Request other epoch life want) is = w
        by (messages.Answer to answer) is =
            answer_sees commits tx account_of s wrote st w (unwritten_of decl account_of c tied) to answer
            (record {
              lines = λ x same. f.lines e (In-last (Takes (inputs.Got e)) ds) to x
                  (is ∙ ap (λ (a : Answer). messages.Answer to a) same);
              asked = λ x same q among number untaken.
                  (let a : IsAwaited ds q = open_requests_were_sent decl client ds q among untaken in
                  f.asked e (In-last (Takes (inputs.Got e)) ds) to x
                  (is ∙ ap (λ (a : Answer). messages.Answer to a) same) q.site a.tx a.epoch q.life q.want
                  (In-first (Sends to q.site (messages.Request a.tx a.epoch q.life q.want)) ds
                  (Takes (inputs.Got e) ∷ [])
                  (subst (λ (k : ℕ). In (Sends k q.site (messages.Request a.tx a.epoch q.life q.want)) ds) number
                  (subst (λ (xs : List Deed). In (Sends q.number q.site (messages.Request a.tx a.epoch q.life q.want))
                  xs) (sym a.is)
                  (In-second (Sends q.number q.site (messages.Request a.tx a.epoch q.life q.want)) a.before
                  (Sends q.number q.site (messages.Request a.tx a.epoch q.life q.want) ∷ a.after) (inl refl))))));
            })
        by (messages.Decision other verdict) is = w
        by (messages.Inquiry other) is = w
        by (messages.Ask other) is = w
        by (messages.Close epoch) is = w
        by (messages.Install start) is = w
    take (inputs.Lost number) may f = lost_sees commits tx account_of s wrote st w number
        (counted account_of number None) (counts number account_of None)

    -- and where a reply is due then, nothing is waited for
    pub replied_free : (g : Input) (reply : Reply) → running_row decl (account_taken account_of g) false ≡ Some reply
        → (next : Sight) → Sees commits tx (account_taken account_of g) next wrote st → IsFree next
    replied_free g reply is_due next here m among =
        let o : IsOpen m (account_taken account_of g).requests = here.waiting m among in
        none_open decl (account_taken account_of g) reply is_due
        (heard_goes decl account_of g (goes_of decl account_of c tied)) o.request o.among o.untaken
