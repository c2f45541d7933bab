-- A site that is up answers each request that names what is declared, unless its record isn't written, and it falls.
use Rattle.std.proofs.Common.{◌≡◌, ℕ, ◌+◌, ◌-◌, ◌<◌, ◌==◌, Bool, true, false, if◌then◌else◌, List, [], ◌∷◌, ◌++◌}
use Rattle.std.proofs.Common.{Option, Some, None, refl, sym, ap, ◌∙◌, subst, append_assoc}
use Rattle.std.specs.Prelude.{fold}
use Rattle.std.proofs.lemmas.Bool.{eq-eqb}
use Rattle.std.proofs.lemmas.List.Sums.{fold-append}
use Rattle.qc_list.specs.Vocabulary.{In}
use Rattle.qc_client.specs.Vocabulary.{client_takes, new_client, sent_one}
use Rattle.qc_client.specs.declared.client.Client.{Client}
use Rattle.qc_core.proofs.ByNumber.{client_new, client_risen, site_new, site_risen}
use Rattle.qc_core.specs.declared.actor.Actor.{Actor}
use Rattle.qc_core.specs.declared.actor.Actor.TheVariants as actor
use Rattle.qc_core.specs.Vocabulary.{ActorMove, MayReach, actor_after, actor_does, actor_rises, actor_sends}
use Rattle.qc_core.specs.Vocabulary.{actor_takes, moved, new_actor, up_at}
use Rattle.qc_core.specs.Lives as lives
use Rattle.qc_core.proofs.OpenedInputs.{Opened, opened}
use Rattle.qc_decl.specs.Vocabulary.{is_client, is_site}
use Rattle.qc_decl.specs.declared.declaration.Declaration.{Declaration}
use Rattle.laws_turns.proofs.Answering.{answer_ends, others_fewer}
use Rattle.laws_turns.proofs.Rounds.{IsProper}
use Rattle.laws_turns.proofs.SiteReplies.{IsReply, request_reply}
use Rattle.qc_msg.specs.declared.message.Answer.{Answer}
use Rattle.qc_msg.specs.declared.message.Envelope.{Envelope}
use Rattle.qc_msg.specs.declared.message.Message.{Message}
use Rattle.qc_msg.specs.declared.message.Message.TheVariants as messages
use Rattle.qc_msg.specs.declared.record.Record.{Record}
use Rattle.qc_msg.specs.declared.reply.Reply.{Reply}
use Rattle.qc_msg.specs.declared.step.Fall.{Fall}
use Rattle.qc_msg.specs.declared.step.Input.{Input}
use Rattle.qc_msg.specs.declared.step.Input.TheVariants as inputs
use Rattle.qc_msg.specs.declared.step.Step.{Step}
use Rattle.qc_msg.specs.declared.step.Step.TheVariants as steps
use Rattle.qc_msg.specs.declared.turn.Posting.{Posting}
use Rattle.qc_msg.specs.declared.turn.Turn.{Turn}
use Rattle.qc_msg.specs.Vocabulary.{Deed, Entry, Falls, Rises, Sends, Takes, Tells, Writes, by, fell, marked, posted}
use Rattle.qc_msg.specs.Vocabulary.{quiet, sents, told, wrote}
use Rattle.qc_msg.proofs.GrownMail.{by-append}
use Rattle.qc_script.specs.declared.script.Script.{Script}
use Rattle.qc_script.specs.Vocabulary.{Inbox, SentRequest, inbox, inbox_at, is_request, reply_told, request_numbers}
use Rattle.qc_site.specs.Vocabulary.{SiteState, new_site, site_at, site_takes}
use Rattle.qc_recover.specs.Vocabulary.{client_rises, site_rises}
use Rattle.laws_due.proofs.Answering.{after_fall}
use Rattle.laws_due.proofs.AskingCases.{asking_cases}
use Rattle.qc_mailbox.proofs.Keeping.{inbox_after}

-- a site answers each request that names what is declared

pub record IsDeclared (decl : Declaration) (e : Envelope) : Type 0 where
  pub site : e.to < decl.sites
  pub replies : (s : SiteState) → IsReply e.from e.number (site_at decl s e.from e.number e.message)

pub declared_request : (decl : Declaration) (e : Envelope) (m : Message) → e.message ≡ m → is_request m ≡ true
    → IsProper decl e.to m → IsDeclared decl e
declared_request decl e m is request p =
    asking_cases (λ (x : Message). e.message ≡ x → IsProper decl e.to x → IsDeclared decl e)
    (λ q same proper. record {
      site = proper.0;
      replies = λ s. subst (λ (x : Message). IsReply e.from e.number (site_at decl s e.from e.number x)) (sym same)
          (request_reply decl s e.from e.number q.tx q.epoch q.life q.want proper.1);
    })
    (λ tx same never. absurd never) (λ epoch same never. absurd never) (λ start same never. absurd never) m request is p

-- what an actor is while it is up, by its deeds

abbrev KindAt : (Actor → Type 0) → Bool → Actor → Type 0
KindAt Is true v = Is v
KindAt Is false v = Unit {0}

module _ (decl : Declaration) (b : ℕ) (Is : Actor → Type 0) (new : Is (new_actor decl b))
    (taken : (v : Actor) (g : Input) → Is v → Is (actor_takes decl v g).actor)
    (sent : (v : Actor) (n to : ℕ) (m : Message) → Is v → Is (actor_sends v n to m))
    (risen : (kept : List Record) → Is (actor_rises decl b kept).actor) where
  taken_at : (u : Bool) (v : Actor) (g : Input) → KindAt Is u v → KindAt Is u (actor_takes decl v g).actor
  taken_at true v g is = taken v g is
  taken_at false v g is = tt

  sent_at : (u : Bool) (v : Actor) (n to : ℕ) (m : Message) → KindAt Is u v → KindAt Is u (actor_sends v n to m)
  sent_at true v n to m is = sent v n to m is
  sent_at false v n to m is = tt

  kind_from : (u : Bool) (ds : List Deed) (m : ActorMove) → KindAt Is u m.actor
      → KindAt Is (fold up_at u ds) (fold (actor_does decl b) m ds).actor
  kind_from u [] m is = is
  kind_from u (Takes g ∷ ds) m is = kind_from u ds (actor_takes decl m.actor g) (taken_at u m.actor g is)
  kind_from u (Writes written ∷ ds) m is = kind_from u ds m is
  kind_from u (Sends n to message ∷ ds) m is =
      kind_from u ds (record m { actor = actor_sends m.actor n to message }) (sent_at u m.actor n to message is)
  kind_from u (Tells reply ∷ ds) m is = kind_from u ds m is
  kind_from u (Falls cause pending ∷ ds) m is = kind_from false ds (moved actor.Down quiet) tt
  kind_from u (Rises kept ∷ ds) m is = kind_from true ds (actor_rises decl b kept) (risen kept)

  kind_up : (ds : List Deed) → lives.is_up ds ≡ true → Is (actor_after decl b ds).actor
  kind_up ds up = subst (λ (u : Bool). KindAt Is u (actor_after decl b ds).actor) up
      (kind_from true ds (moved (new_actor decl b) quiet) new)

-- a site that is up is a site, and a client is a client

abbrev pub IsSomeSite : Actor → Type 0
IsSomeSite v = (s : SiteState) × (v ≡ actor.Site s)

abbrev pub IsSomeClient : Actor → Type 0
IsSomeClient v = (c : Client) × (v ≡ actor.Client c)

pub site_up : (decl : Declaration) (b : ℕ) → is_site decl b ≡ true → (ds : List Deed) → lives.is_up ds ≡ true
    → IsSomeSite (actor_after decl b ds).actor
site_up decl b site =
    kind_up decl b IsSomeSite (new_site b, site_new decl b site)
    (λ v g is. ((site_takes decl is.0 g).site, ap (λ (w : Actor). (actor_takes decl w g).actor) is.1))
    (λ v n to m is. (is.0, ap (λ (w : Actor). actor_sends w n to m) is.1))
    (λ kept. subst (λ (m : ActorMove). IsSomeSite m.actor) (sym (site_risen decl b site kept))
    ((site_rises decl b kept).site, refl))

pub client_up : (decl : Declaration) (b : ℕ) → is_client decl b ≡ true → (ds : List Deed) → lives.is_up ds ≡ true
    → IsSomeClient (actor_after decl b ds).actor
client_up decl b client =
    kind_up decl b IsSomeClient (new_client (b - decl.sites), client_new decl b client)
    (λ v g is. ((client_takes decl is.0 g).client, ap (λ (w : Actor). (actor_takes decl w g).actor) is.1))
    (λ v n to m is. (sent_one is.0 n to m, ap (λ (w : Actor). actor_sends w n to m) is.1))
    (λ kept. subst (λ (m : ActorMove). IsSomeClient m.actor) (sym (client_risen decl b client kept))
    ((client_rises (b - decl.sites) kept).client, refl))

-- who took a message was up

abbrev last_deed : List Deed → Option Deed
last_deed ds = fold (λ (o : Option Deed) (d : Deed). Some d) None ds

last_is : (ds : List Deed) (d : Deed) → last_deed (ds ++ d ∷ []) ≡ Some d
last_is ds d = fold-append (λ (o : Option Deed) (d : Deed). Some d) None ds (d ∷ [])

up_before : (ds : List Deed) (g : Input) → lives.is_up (ds ++ Takes g ∷ []) ≡ lives.is_up ds
up_before ds g = fold-append up_at true ds (Takes g ∷ [])

pub took_up : (decl : Declaration) (b : ℕ) (ds : List Deed) (n : ℕ) → lives.Lives decl b ds true n
    → (before : List Deed) (e : Envelope) → ds ≡ before ++ Takes (inputs.Got e) ∷ [] → lives.is_up before ≡ true
took_up decl b ds n life before e is = sym (up_before before (inputs.Got e))
    ∙ ap (λ (v : List Deed). lives.is_up v) (sym is ∙ o.is) ∙ up_before o.before o.given
    ∙ by o.given o.reach (sym (last_is o.before (Takes o.given)) ∙ ap last_deed (sym o.is ∙ is)
    ∙ last_is before (Takes (inputs.Got e)))
  where
    o : Opened ds
    o = opened decl b ds true n life refl

    by : (g : Input) → MayReach (lives.is_up o.before) g → Some (Takes g) ≡ Some (Takes (inputs.Got e))
        → lives.is_up o.before ≡ true
    by (inputs.Called command) reach same = absurd (let never : ⊥ = cc in never)
    by (inputs.Got x) reach same = reach
    by (inputs.Lost number) reach same = reach

-- a post that begins with the answer ends the wait

module _ (script : Script) (a b : ℕ) (other : (b == a) ≡ false) where
  abbrev pub step_on : Inbox → Entry → Inbox
  step_on i e = inbox_at script a i e.actor e.step

  told_fewer : (i : Inbox) (reply : Option Reply) (k : ℕ)
      → In k (request_numbers (fold step_on i (by b (told reply))).unanswered) → In k (request_numbers i.unanswered)
  told_fewer i None k member = member
  told_fewer i (Some reply) k member = on (b == a) member
    where
      on : (t : Bool) → In k (request_numbers (if t then reply_told i else i).unanswered)
          → In k (request_numbers i.unanswered)
      on true there = there
      on false there = there

  sents_fewer : (i : Inbox) (n : ℕ) (ps : List Posting) (reply : Option Reply) (k : ℕ)
      → In k (request_numbers (fold step_on i (by b (sents n ps ++ told reply))).unanswered)
      → In k (request_numbers i.unanswered)
  sents_fewer i n [] reply k member = told_fewer i reply k member
  sents_fewer i n (p ∷ ps) reply k member =
      others_fewer script a i (record { number = n; from = b; to = p.to; message = p.message }) other k
      (sents_fewer (inbox_at script a i b (steps.Sent n p.to p.message)) (n + 1) ps reply k member)

  pub turn_ends : (i : Inbox) (n : ℕ) (turn : Turn) (k : ℕ) (x : Answer) (rest : List Posting)
      → turn.sends ≡ record { to = a; message = messages.Answer k x } ∷ rest
      → In k (request_numbers (fold step_on i (by b (posted n turn))).unanswered) → ⊥
  turn_ends i n turn k x rest is member = on turn.write turn.sends is member
    where
      first : (j : Inbox) → In k (request_numbers
          (fold step_on j (by b (sents n (record { to = a; message = messages.Answer k x } ∷ rest)
          ++ told turn.told))).unanswered) → ⊥
      first j there =
          answer_ends script a j (record { number = n; from = b; to = a; message = messages.Answer k x }) k x refl
          (eq-eqb a a refl) other
          (sents_fewer (inbox_at script a j b (steps.Sent n a (messages.Answer k x))) (n + 1) rest turn.told k there)

      on : (w : Option Record) (ps : List Posting) → ps ≡ record { to = a; message = messages.Answer k x } ∷ rest
          → In k (request_numbers (fold step_on i (by b (wrote w ++ (sents n ps ++ told turn.told)))).unanswered) → ⊥
      on None ps same there = first i (subst (λ (qs : List Posting). In k
          (request_numbers (fold step_on i (by b (sents n qs ++ told turn.told))).unanswered)) same there)
      on (Some written) ps same there =
          first (inbox_at script a i b (steps.Wrote written))
          (subst (λ (qs : List Posting). In k (request_numbers
          (fold step_on (inbox_at script a i b (steps.Wrote written))
          (by b (sents n qs ++ told turn.told))).unanswered)) same there)

-- a post that ends with a fall leaves no request to who falls

pub fell_last : (script : Script) (a b : ℕ) (h : List Entry) (xs : List Step) (cause : Fall) (pending : Option Record)
    (r : SentRequest) → In r (inbox script a (h ++ by b (xs ++ fell cause pending))).unanswered → (r.to == b) ≡ false
fell_last script a b h xs cause pending r member =
    (after_fall script a (inbox script a (h ++ by b xs)) b cause pending r
    (subst (λ (i : Inbox). In r i.unanswered)
    (ap (inbox script a) split ∙ inbox_after script a (h ++ by b xs) (marked b (steps.Fell cause pending)))
    member)).1
  where
    split : h ++ by b (xs ++ fell cause pending) ≡ (h ++ by b xs) ++ marked b (steps.Fell cause pending) ∷ []
    split = ap (λ (v : List Entry). h ++ v) (by-append b xs (fell cause pending))
        ∙ sym (append_assoc h (by b xs) (marked b (steps.Fell cause pending) ∷ []))
