-- Between two inputs a running command waits for an open request, and nothing is due; what everybody grants is
-- answered.
use Rattle.std.proofs.Common.{◌≡◌, ◌⊎◌, ◌<◌, ℕ, ◌==◌, ◌&&◌, Bool, true, false, cond, List, [], ◌∷◌, length, map, filter}
use Rattle.std.proofs.Common.{inl, inr, Option, Some, None, is_some, unwrap_or, refl, ap, ◌∙◌, subst, arith}
use Rattle.std.specs.Prelude.{is_none}
use Rattle.std.specs.List.{list_all, AllByRecursion as Every}
use Rattle.std.specs.Option.{option_or}
use Rattle.std.proofs.lemmas.Bool.{le-leb}
use Rattle.qc_list.specs.Vocabulary.{In}
use Rattle.qc_list.proofs.Members.{every-filter}
use Rattle.qc_core.specs.Vocabulary.{Acts, IsLawful}
use Rattle.qc_decl.specs.declared.declaration.Declaration.{Declaration}
use Rattle.qc_decl.specs.Vocabulary.{append_need_of, is_client, read_need_of}
use Rattle.qc_front.specs.declared.doing.Doing.{Doing}
use Rattle.qc_front.specs.declared.doing.Doing.TheVariants.{Reading, Appending}
use Rattle.qc_front.specs.declared.front.Front.{Front}
use Rattle.qc_front.specs.declared.transaction.Transaction.{Transaction}
use Rattle.qc_front.specs.Going as going
use Rattle.qc_front.proofs.Goes.{waits}
use Rattle.qc_client.specs.declared.client.Client.{Client}
use Rattle.qc_msg.specs.declared.call.Call.{Call}
use Rattle.qc_msg.specs.declared.message.Answer.{Answer}
use Rattle.qc_msg.specs.declared.message.Want.{Want}
use Rattle.qc_msg.specs.declared.reply.Reply.TheVariants as replies
use Rattle.qc_msg.specs.declared.turn.Turn.{Turn}
use Rattle.qc_msg.specs.Vocabulary.{Deed}
use Rattle.qc_plan.specs.declared.standing.Verdict.TheVariants as verdicts
use Rattle.qc_plan.specs.Vocabulary.{all_noted, first_clash, first_closed, has_granted, refusal, settled, verdict}
use Rattle.qc_plan.specs.Vocabulary.{weight}
use Rattle.qc_promise.specs.Vocabulary.{Account, ClientRequest, Current, answer_of, answer_row, append_row, asked_by}
use Rattle.qc_promise.specs.Vocabulary.{is_append, is_read, read_row, resp_of, round_of, running_row, weights_of}
use Rattle.laws_due.specs.Vocabulary.{Holds, IsDo, IsEnough, IsGranted, IsGrantedDo, IsWaiting, NoneRuns, Ties, appends}
use Rattle.laws_due.specs.Vocabulary.{call_of, calls_in, front_of, reads, rests, votes}
use Rattle.laws_due.proofs.Nothing.{do_row_is, tied_none}
use Rattle.laws_due.proofs.Courses.{account_of, clients_hold, accounts_are_their_clients, move_of}
use Rattle.laws_due.proofs.Courses.{turns_tell_their_rows}

-- an open request

called_open : (d : Account) (qs : List ClientRequest) → ((q : ClientRequest) → In q qs → In q d.requests)
    → 0 < length (calls_in qs) → IsWaiting d
called_open d [] within some = absurd (omega arith)
called_open d (q ∷ qs) within some = by q.taken refl some (called_open d qs (λ r among. within r (inr among)))
  where
    by : (o : Option (Option Answer)) → q.taken ≡ o
        → 0 < length (map call_of (cond (is_none o) (q ∷ filter (λ (p : ClientRequest). is_none p.taken) qs)
        (filter (λ (p : ClientRequest). is_none p.taken) qs)))
        → (0 < length (calls_in qs) → IsWaiting d) → IsWaiting d
    by None is some more = record { request = q; among = within q (inl refl); open_still = is }
    by (Some a) is some more = more some

untaken_open : (d : Account) (qs : List ClientRequest) → ((q : ClientRequest) → In q qs → In q d.requests)
    → list_all (λ (q : ClientRequest). is_some q.taken) qs ≡ false → IsWaiting d
untaken_open d [] within some = absurd (let never : ⊥ = cc in never)
untaken_open d (q ∷ qs) within some = by q.taken refl some (untaken_open d qs (λ r among. within r (inr among)))
  where
    by : (o : Option (Option Answer)) → q.taken ≡ o
        → (is_some o && list_all (λ (p : ClientRequest). is_some p.taken) qs) ≡ false
        → (list_all (λ (p : ClientRequest). is_some p.taken) qs ≡ false → IsWaiting d) → IsWaiting d
    by None is some more = record { request = q; among = within q (inl refl); open_still = is }
    by (Some a) is some more = more some

module _ (decl : Declaration) (d : Account) (c : Client) (h : Holds decl c) where
  doing_waits : (tr : Option Transaction) (doing : Doing) → c.front ≡ front_of d tr doing → going.is_idle doing ≡ false
      → going.calls_in doing ≡ calls_in d.requests → IsWaiting d
  doing_waits tr doing is busy calls =
      called_open d d.requests (λ q among. among)
      (subst (λ (cs : List Call). 0 < length cs) (ap (λ (f : Front). going.calls_in f.doing) is ∙ calls)
      (waits decl c.front h.front h.numbered (ap (λ (f : Front). going.is_idle f.doing) is ∙ busy)))

  pub tied_waits : Ties decl d c → NoneRuns d.command ⊎ IsWaiting d
  tied_waits (rests r) = inl r.command
  tied_waits (reads r) = inr (doing_waits (Some r.x)
      (Reading r.object r.inv (calls_in d.requests)
      (round_of decl d r.t is_read (read_need_of decl r.t.epoch r.object r.inv))) r.front refl refl)
  tied_waits (appends r) = inr (doing_waits (Some r.x)
      (Appending r.object r.inv r.event (calls_in d.requests)
      (round_of decl d r.t is_append (append_need_of decl r.t.epoch r.object r.event))) r.front refl refl)
  tied_waits (votes r) = inr (untaken_open d d.requests (λ q among. among) r.waits)

-- a half that everybody grants, with weight enough, is met

granted_noted : (hs : List ClientRequest) → Every IsGranted hs
    → (all_noted (map asked_by hs) ≡ true) ×
    ((first_closed (map asked_by hs) ≡ None) × (first_clash (map asked_by hs) ≡ None))
granted_noted [] all = (refl, (refl, refl))
granted_noted (q ∷ hs) all =
    let more : (all_noted (map asked_by hs) ≡ true)
    × ((first_closed (map asked_by hs) ≡ None) × (first_clash (map asked_by hs) ≡ None)) = granted_noted hs all.1 in
    (rw all.0.is more.0, (rw all.0.is more.1.0, rw all.0.is more.1.1))

granted_met : (decl : Declaration) (d : Account) (t : Current) (half : Want → Bool) (need : ℕ)
    → Every IsGranted d.requests → IsEnough decl d t half need → verdict (round_of decl d t half need) ≡ verdicts.Met
granted_met decl d t half need all enough =
    let hs : Every IsGranted (filter (λ (q : ClientRequest). half q.want) d.requests) =
    every-filter IsGranted (λ (q : ClientRequest). half q.want) d.requests all in
    let g = granted_noted (filter (λ (q : ClientRequest). half q.want) d.requests) hs in
    ap (λ (b : Bool). cond b (unwrap_or (refusal (round_of decl d t half need).asked)
    (settled (round_of decl d t half need) (weight (has_granted (round_of decl d t half need).asked)
    (weights_of decl t.epoch)))) verdicts.Waiting) g.0
    ∙ (λ i. unwrap_or (option_or (g.1.0 i) (g.1.1 i))
    (settled (round_of decl d t half need) (weight (has_granted (round_of decl d t half need).asked)
    (weights_of decl t.epoch))))
    ∙ ap (λ (b : Bool). cond b verdicts.Met (cond (length (round_of decl d t half need).rest == 0)
    (verdicts.Short (weight (has_granted (round_of decl d t half need).asked) (weights_of decl t.epoch)) need)
    verdicts.Waiting))
    (le-leb need (weight (has_granted (round_of decl d t half need).asked) (weights_of decl t.epoch)) enough)

granted_absent : (decl : Declaration) (d : Account) (t : Current) (object inv : ℕ) → IsDo d t object inv
    → Every IsGranted d.requests → IsEnough decl d t is_read (read_need_of decl t.epoch object inv)
    → answer_of decl t object inv ≡ None → running_row decl d false ≡ Some replies.Absent
granted_absent decl d t object inv r all enough none =
    do_row_is decl d t object inv r ∙ ap (read_row decl d t object inv)
    (granted_met decl d t is_read (read_need_of decl t.epoch object inv) all enough)
    ∙ ap (answer_row decl d t object) none

granted_answered : (decl : Declaration) (d : Account) (t : Current) (object inv event : ℕ) → IsDo d t object inv
    → Every IsGranted d.requests → IsEnough decl d t is_read (read_need_of decl t.epoch object inv)
    → answer_of decl t object inv ≡ Some event → IsEnough decl d t is_append (append_need_of decl t.epoch object event)
    → running_row decl d false ≡ Some (replies.Response (resp_of decl object event))
granted_answered decl d t object inv event r all enough some appended =
    do_row_is decl d t object inv r ∙ ap (read_row decl d t object inv)
    (granted_met decl d t is_read (read_need_of decl t.epoch object inv) all enough)
    ∙ ap (answer_row decl d t object) some
    ∙ ap (append_row decl object event) (granted_met decl d t is_append
    (append_need_of decl t.epoch object event) all appended)

-- over all deeds of a client

module _ (decl : Declaration) (a : ℕ) (client : is_client decl a ≡ true) (ds : List Deed) (n : ℕ)
    (acts : Acts decl a ds false n) where
  pub commands_wait_for_requests : NoneRuns (account_of decl a client ds).command
      ⊎ IsWaiting (account_of decl a client ds)
  commands_wait_for_requests = tied_waits decl (account_of decl a client ds) (move_of decl a client ds).client
      (clients_hold decl a client ds n acts) (accounts_are_their_clients decl a client ds n acts)

  pub clients_owe_nothing : running_row decl (account_of decl a client ds) false ≡ None
  clients_owe_nothing = tied_none decl (account_of decl a client ds) (move_of decl a client ds).client
      (clients_hold decl a client ds n acts) (accounts_are_their_clients decl a client ds n acts)

-- so a `do` that everybody grants is told its answer

pub told_absent : (decl : Declaration) (a : ℕ) (client : is_client decl a ≡ true) (ds : List Deed) (n : ℕ) (turn : Turn)
    → Acts decl a ds true n → IsLawful decl a ds turn → (t : Current) (object inv : ℕ)
    → IsGrantedDo decl (account_of decl a client ds) t object inv → answer_of decl t object inv ≡ None
    → turn.told ≡ Some replies.Absent
told_absent decl a client ds n turn acts law t object inv g none =
    turns_tell_their_rows decl a client ds n turn acts law
    ∙ granted_absent decl (account_of decl a client ds) t object inv g.runs g.all g.enough none

pub told_response : (decl : Declaration) (a : ℕ) (client : is_client decl a ≡ true) (ds : List Deed) (n : ℕ)
    (turn : Turn) → Acts decl a ds true n → IsLawful decl a ds turn → (t : Current) (object inv event : ℕ)
    → IsGrantedDo decl (account_of decl a client ds) t object inv → answer_of decl t object inv ≡ Some event
    → IsEnough decl (account_of decl a client ds) t is_append (append_need_of decl t.epoch object event)
    → turn.told ≡ Some (replies.Response (resp_of decl object event))
told_response decl a client ds n turn acts law t object inv event g some appended =
    turns_tell_their_rows decl a client ds n turn acts law
    ∙ granted_answered decl (account_of decl a client ds) t object inv event g.runs g.all g.enough some appended
