-- What runs, as far as replies wait for its requests: where the client has no open input, it waits for some.
use Rattle.std.proofs.Common.{[], ◌≡◌, ℕ, ◌&&◌, true, false, List, ◌∷◌, inl, inr, length, map, Option, Some, None}
use Rattle.std.proofs.Common.{option_map, refl, ap, ◌∙◌}
use Rattle.std.specs.Prelude.{drop, is_some}
use Rattle.std.specs.List.{AllByRecursion as Every, list_all}
use Rattle.qc_list.specs.Vocabulary.{In}
use Rattle.qc_decl.specs.Vocabulary.{first_site, read_need_of}
use Rattle.qc_decl.specs.declared.declaration.Declaration.{Declaration}
use Rattle.qc_msg.specs.declared.message.Answer.{Answer}
use Rattle.qc_msg.specs.declared.message.Want.TheVariants.{Read}
use Rattle.qc_msg.specs.Vocabulary.{first_read}
use Rattle.qc_msg.specs.declared.step.Command.TheVariants as commands
use Rattle.qc_plan.specs.declared.standing.Asked.{Asked}
use Rattle.qc_plan.specs.declared.standing.Verdict.TheVariants as verdicts
use Rattle.qc_plan.specs.Vocabulary.{RoundState, all_noted, start, verdict}
use Rattle.qc_promise.specs.Vocabulary.{Account, ClientRequest, Current, answer_of, asked_by, is_append, is_prepare}
use Rattle.qc_promise.specs.Vocabulary.{is_read, round_of, standing_of, weights_of}
use Rattle.qc_client.specs.declared.client.Client.{Client}
use Rattle.laws_due.specs.Vocabulary.{IsDo, IsOpenIn, IsPrepare, Ties, appends, reads, rests, votes}

abbrev pub NoneOpen : List ClientRequest → Type 0
NoneOpen qs = (q : ClientRequest) → In q qs → q.taken ≡ None → ⊥

-- a half that is noted, and a vote that is in

pub noted_none : (hs : List ClientRequest) → all_noted (map asked_by hs) ≡ true → NoneOpen hs
noted_none [] noted q among is = among
noted_none (p ∷ hs) noted q among is = by p.taken refl noted among (noted_none hs)
  where
    by : (o : Option (Option Answer)) → p.taken ≡ o
        → (is_some (option_map standing_of o) && all_noted (map asked_by hs)) ≡ true → In q (p ∷ hs)
        → (all_noted (map asked_by hs) ≡ true → NoneOpen hs) → ⊥
    by None e noted among rest = let never : ⊥ = cc in never
    by (Some a) e noted (inl same) rest =
        let taken : q.taken ≡ Some a = ap (λ (x : ClientRequest). x.taken) same ∙ e in let never : ⊥ = cc in never
    by (Some a) e noted (inr later) rest = rest noted q later is

pub taken_none : (hs : List ClientRequest) → list_all (λ (q : ClientRequest). is_some q.taken) hs ≡ true → NoneOpen hs
taken_none [] all q among is = among
taken_none (p ∷ hs) all q among is = by p.taken refl all among (taken_none hs)
  where
    by : (o : Option (Option Answer)) → p.taken ≡ o
        → (is_some o && list_all (λ (x : ClientRequest). is_some x.taken) hs) ≡ true → In q (p ∷ hs)
        → (list_all (λ (x : ClientRequest). is_some x.taken) hs ≡ true → NoneOpen hs) → ⊥
    by None e all among rest = let never : ⊥ = cc in never
    by (Some a) e all (inl same) rest =
        let taken : q.taken ≡ Some a = ap (λ (x : ClientRequest). x.taken) same ∙ e in let never : ⊥ = cc in never
    by (Some a) e all (inr later) rest = rest all q later is

-- a round by what it reads of the account
abbrev pub round_with : Declaration → ℕ → ℕ → ℕ → List ClientRequest → RoundState
round_with decl client epoch need hs =
    let asked : List Asked = map asked_by hs in
    let fresh : RoundState = start (weights_of decl epoch) (first_site decl client) need in
    record fresh { asked = asked; rest = drop (length asked) fresh.rest }

-- what runs, as far as replies wait for its requests

pub record DoesRead (d : Account) : Type 0 where
  pub object : ℕ
  pub inv : ℕ
  pub t : Current
  pub runs : IsDo d t object inv
  pub all : Every (λ (q : ClientRequest). is_read q.want ≡ true) d.requests

pub record DoesAppend (decl : Declaration) (d : Account) : Type 0 where
  pub object : ℕ
  pub inv : ℕ
  pub event : ℕ
  pub t : Current
  pub runs : IsDo d t object inv
  pub met : verdict (round_of decl d t is_read (read_need_of decl t.epoch object inv)) ≡ verdicts.Met
  pub chosen : answer_of decl t object inv ≡ Some event
  pub all : Every (IsOpenIn is_append) d.requests

pub record DoesCommit (d : Account) : Type 0 where
  pub t : Current
  pub command : d.command ≡ Some commands.Commit
  pub current : d.current ≡ Some t
  pub live : t.doomed ≡ false
  pub all : Every (λ (q : ClientRequest). is_prepare q.want ≡ true) d.requests

pub data Goes (decl : Declaration) (d : Account) : Type 0 where
  asks_none : d.requests ≡ [] → Goes decl d
  does_read : DoesRead d → Goes decl d
  does_append : DoesAppend decl d → Goes decl d
  does_commit : DoesCommit d → Goes decl d

-- so it is where the client has no open input
pub goes_of : (decl : Declaration) (d : Account) (c : Client) → Ties decl d c → Goes decl d
goes_of decl d c (rests r) = asks_none r.requests
goes_of decl d c (reads r) =
    does_read (record { object = r.object; inv = r.inv; t = r.t; runs = r.runs; all = of_reads d.requests r.reads })
  where
    of_reads : (qs : List ClientRequest) → Every (λ (q : ClientRequest). q.want ≡ Read (first_read r.object r.inv)) qs
        → Every (λ (q : ClientRequest). is_read q.want ≡ true) qs
    of_reads [] all = tt
    of_reads (q ∷ qs) all = (ap is_read all.0, of_reads qs all.1)
goes_of decl d c (appends r) =
    does_append (record {
      object = r.object;
      inv = r.inv;
      event = r.event;
      t = r.t;
      runs = r.runs;
      met = r.met;
      chosen = r.chosen;
      all = r.appends;
    })
goes_of decl d c (votes r) =
    does_commit (record {
      t = r.t;
      command = r.command;
      current = r.current;
      live = r.live;
      all = of_prepares d.requests r.prepares;
    })
  where
    of_prepares : (qs : List ClientRequest) → Every (IsPrepare r.t) qs
        → Every (λ (q : ClientRequest). is_prepare q.want ≡ true) qs
    of_prepares [] all = tt
    of_prepares (q ∷ qs) all = (ap is_prepare all.0.want, of_prepares qs all.1)

pub unwritten_of : (decl : Declaration) (d : Account) (c : Client) → Ties decl d c → d.written ≡ None
unwritten_of decl d c (rests r) = r.written
unwritten_of decl d c (reads r) = r.runs.written
unwritten_of decl d c (appends r) = r.runs.written
unwritten_of decl d c (votes r) = r.written
