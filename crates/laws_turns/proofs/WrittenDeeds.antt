-- The commit records of a client's deeds, as they go on; and those of a history.
use Rattle.std.proofs.Common.{◌≡◌, ℕ, ◌+◌, ◌==◌, Bool, true, false, cond, List, [], ◌∷◌, ◌++◌, ◌⊎◌, inl, inr, fold}
use Rattle.std.proofs.Common.{Option, Some, None, option_to_list, slice_get, refl, sym, ap, ◌∙◌, subst, eqb-true}
use Rattle.std.proofs.Common.{eq-eqb}
use Rattle.std.specs.List.{AllByRecursion as Every, cons_option, filter_map}
use Rattle.std.specs.Prelude.{option_and_then, slice_get}
use Rattle.std.specs.Option.{option_map_or}
use Rattle.std.proofs.lemmas.List.{append-nil}
use Rattle.std.proofs.lemmas.List.Elements.{filter_map-append}
use Rattle.qc_list.specs.Vocabulary.{In}
use Rattle.qc_list.proofs.Members.{In-first, In-second}
use Rattle.qc_decl.specs.Vocabulary.{is_client}
use Rattle.qc_decl.specs.declared.declaration.Declaration.{Declaration}
use Rattle.qc_entry.specs.declared.record.Commit.{Commit}
use Rattle.qc_msg.specs.declared.message.Envelope.{Envelope}
use Rattle.qc_msg.specs.declared.message.Message.{Message}
use Rattle.qc_msg.specs.declared.record.Record.{Record}
use Rattle.qc_msg.specs.declared.reply.Reply.{Reply}
use Rattle.qc_msg.specs.declared.step.Input.{Input}
use Rattle.qc_msg.specs.declared.step.Step.{Step}
use Rattle.qc_msg.specs.declared.turn.Posting.{Posting}
use Rattle.qc_msg.specs.declared.turn.Turn.{Turn}
use Rattle.qc_msg.specs.Vocabulary.{Deed, Entry, Falls, Rises, Sends, Takes, Tells, Writes, commit_in, commit_of}
use Rattle.qc_msg.specs.Vocabulary.{deed_at, deeds, envelope_of, heard, sends_of, tells_of, turn_deeds, writes_of}
use Rattle.qc_msg.specs.Vocabulary.{wrote_in, rose_in}
use Rattle.qc_commit.specs.declared.desk.Voting.{Voting}
use Rattle.qc_commit.specs.Conduct as desks
use Rattle.qc_client.specs.declared.client.Client.{Client}
use Rattle.qc_client.specs.Vocabulary.{ClientMove, client_does, sent_one}
use Rattle.qc_promise.specs.Vocabulary.{commits_by, commits_in, records}
use Rattle.laws_turns.proofs.Up.{first_up, rest_up}
use Rattle.qc_core.specs.Vocabulary.{AreSteady}
use Rattle.laws_turns.specs.Vocabulary.{written_by, written_in}
use Rattle.laws_turns.proofs.ClientsWithin.{IsPost}
use Rattle.laws_turns.proofs.DealtCommands.{commits_of}
use Rattle.laws_turns.proofs.StepCases.{deed_cases}
use Rattle.laws_turns.proofs.ClientCases.{sent_cases}

pub written-append : (xs ys : List Deed) → written_in (xs ++ ys) ≡ written_in xs ++ written_in ys
written-append xs ys = filter_map-append written_by xs ys

pub written-more : (ds : List Deed) (g : Input) → written_in (ds ++ Takes g ∷ []) ≡ written_in ds
written-more ds g = written-append ds (Takes g ∷ []) ∙ append-nil (written_in ds)

pub cons_is : (o : Option Commit) (cs : List Commit) → cons_option o cs ≡ option_to_list o ++ cs
cons_is None cs = refl
cons_is (Some c) cs = refl

pub written-turn : (ds : List Deed) (n : ℕ) (turn : Turn)
    → written_in (ds ++ turn_deeds n turn) ≡ written_in ds ++ commits_of turn.write
written-turn ds n turn = written-append ds (turn_deeds n turn)
    ∙ ap (λ (cs : List Commit). written_in ds ++ cs) (by turn.write) where
      talk : (n : ℕ) (ps : List Posting) (told : Option Reply) → written_in (sends_of n ps ++ tells_of told) ≡ []
      talk n [] None = refl
      talk n [] (Some reply) = refl
      talk n (p ∷ ps) told = talk (n + 1) ps told

      by : (w : Option Record)
          → written_in (writes_of w ++ (sends_of n turn.sends ++ tells_of turn.told)) ≡ commits_of w
      by None = talk n turn.sends turn.told
      by (Some written) = cons_is (commit_of written) (written_in (sends_of n turn.sends ++ tells_of turn.told))
          ∙ ap (λ (cs : List Commit). option_to_list (commit_of written) ++ cs) (talk n turn.sends turn.told)
          ∙ append-nil (option_to_list (commit_of written))

-- a client's records stay as its turn is posted

desk_one : (c : Client) (number to : ℕ) (message : Message)
    → (sent_one c number to message).desk.commits ≡ c.desk.commits
desk_one c number to message =
    sent_cases c number to (λ (d : Client). d.desk.commits ≡ c.desk.commits) refl (by c.desk.voting) refl message
  where
    by : (o : Option Voting) → (desks.prepared_in c.desk o number to).commits ≡ c.desk.commits
    by None = refl
    by (Some v) = refl

pub desk_posts : (decl : Declaration) (m : ClientMove) (ds : List Deed) → Every IsPost ds
    → (fold (client_does decl) m ds).client.desk.commits ≡ m.client.desk.commits
desk_posts decl m [] all = refl
desk_posts decl m (Takes g ∷ ds) all = absurd all.0
desk_posts decl m (Writes written ∷ ds) all = desk_posts decl m ds all.1
desk_posts decl m (Sends number to message ∷ ds) all =
    desk_posts decl (record m { client = sent_one m.client number to message }) ds all.1
    ∙ desk_one m.client number to message
desk_posts decl m (Tells reply ∷ ds) all = desk_posts decl m ds all.1
desk_posts decl m (Falls cause pending ∷ ds) all = desk_posts decl m ds all.1
desk_posts decl m (Rises records ∷ ds) all = desk_posts decl m ds all.1

-- the records of a history are those of its clients' deeds

heard_none : (o : Option Envelope) → written_in (heard o) ≡ []
heard_none None = refl
heard_none (Some e) = refl

step_written : (ms : List Envelope) (step : Step) → written_in (deed_at ms step) ≡ option_to_list (commit_in step)
step_written ms step =
    deed_cases ms (λ step ds. written_in ds ≡ option_to_list (commit_in step))
    (λ step w m r. ap (λ (o : Option Record). option_to_list (option_and_then commit_of o)) (sym w)) (λ command. refl)
    (λ n. heard_none (slice_get ms n)) (λ n. refl)
    (λ written. cons_is (commit_of written) [] ∙ append-nil (option_to_list (commit_of written)))
    (λ n to message. refl) (λ reply. refl) (λ cause pending. refl) (λ records. refl) step

in_either : (c : Commit) (xs ys : List Commit) → In c (xs ++ ys) → In c xs ⊎ In c ys
in_either c [] ys among = inr among
in_either c (x ∷ xs) ys (inl same) = inl (inl same)
in_either c (x ∷ xs) ys (inr later) = by (in_either c xs ys later) where
  by : In c xs ⊎ In c ys → In c (x ∷ xs) ⊎ In c ys
  by (inl first) = inl (inr first)
  by (inr second) = inr second

-- a record that a client wrote
pub record IsWritten (decl : Declaration) (ms : List Envelope) (h : List Entry) (c : Commit) : Type 0 where
  pub actor : ℕ
  pub named : is_client decl actor ≡ true
  pub wrote : In c (written_in (deeds actor ms h))

own_step : (a : ℕ) (ms : List Envelope) (e : Entry) (h : List Entry)
    → written_in (deeds a ms (e ∷ h)) ≡ cond (e.actor == a) (option_to_list (commit_in e.step)) [] ++ written_in
    (deeds a (ms ++ option_to_list (envelope_of e)) h)
own_step a ms e h =
    written-append (cond (e.actor == a) (deed_at ms e.step) []) (deeds a (ms ++ option_to_list (envelope_of e)) h)
    ∙ ap (λ (cs : List Commit). cs ++ written_in (deeds a (ms ++ option_to_list (envelope_of e)) h)) (by (e.actor == a))
  where
    by : (t : Bool) → written_in (cond t (deed_at ms e.step) []) ≡ cond t (option_to_list (commit_in e.step)) []
    by true = step_written ms e.step
    by false = refl

-- where nobody rises, a step has the commit record that it writes

abbrev pub AllUp : List Envelope → List Entry → Type 0
AllUp ms h = (a : ℕ) → AreSteady (deeds a ms h)

pub rest_all_up : (ms : List Envelope) (e : Entry) (h : List Entry) → AllUp ms (e ∷ h)
    → AllUp (ms ++ option_to_list (envelope_of e)) h
rest_all_up ms e h up a = rest_up (cond (e.actor == a) (deed_at ms e.step) [])
    (deeds a (ms ++ option_to_list (envelope_of e)) h) (up a)

step_commits : (ms : List Envelope) (step : Step) → AreSteady (deed_at ms step)
    → commits_in step ≡ option_to_list (commit_in step)
step_commits ms step up =
    deed_cases ms (λ step ds. AreSteady ds → commits_in step ≡ option_to_list (commit_in step))
    (λ step w m r up. one_commit (wrote_in step) (rose_in step) r) (λ command up. refl) (λ n up. refl) (λ n up. refl)
    (λ written up. refl) (λ n to message up. refl) (λ reply up. refl) (λ cause pending up. refl)
    (λ records up. absurd up.0) step up
  where
    one_commit : (w : Option Record) (r : Option (List Record)) → r ≡ None
        → option_map_or (λ (written : Record). option_to_list (commit_of written)) w
        (option_map_or (filter_map commit_of) r []) ≡ option_to_list (option_and_then commit_of w)
    one_commit (Some written) r none = refl
    one_commit None r none = ap (λ (o : Option (List Record)). option_map_or (filter_map commit_of) o []) none

pub entry_commits : (ms : List Envelope) (e : Entry) (h : List Entry) → AllUp ms (e ∷ h)
    → commits_in e.step ≡ option_to_list (commit_in e.step)
entry_commits ms e h up =
    step_commits ms e.step (subst (λ (t : Bool). AreSteady (cond t (deed_at ms e.step) []))
    (eq-eqb e.actor e.actor refl)
    (first_up (cond (e.actor == e.actor) (deed_at ms e.step) [])
    (deeds e.actor (ms ++ option_to_list (envelope_of e)) h) (up e.actor)))

-- in any case it is among its commit records
among_commits : (c : Commit) (step : Step) → In c (option_to_list (commit_in step)) → In c (commits_in step)
among_commits c step among =
    by (wrote_in step) among
  where
    by : (w : Option Record) → In c (option_to_list (option_and_then commit_of w))
        → In c (option_map_or (λ (written : Record). option_to_list (commit_of written)) w
        (option_map_or (filter_map commit_of) (rose_in step) []))
    by None never = absurd never
    by (Some written) is = is

pub listed_written : (decl : Declaration) (ms : List Envelope) (h : List Entry) (c : Commit) → AllUp ms h
    → In c (records decl h) → IsWritten decl ms h c
listed_written decl ms [] c up among = absurd among
listed_written decl ms (e ∷ h) c up among =
    by (in_either c (commits_by decl e) (records decl h) among)
    (listed_written decl (ms ++ option_to_list (envelope_of e)) h c (rest_all_up ms e h up)) where
      here : (t : Bool) → is_client decl e.actor ≡ t → In c (cond t (commits_in e.step) [])
          → IsWritten decl ms (e ∷ h) c
      here true is own = record {
        actor = e.actor;
        named = is;
        wrote = subst (In c) (sym (own_step e.actor ms e h))
            (In-first c (cond (e.actor == e.actor) (option_to_list (commit_in e.step)) [])
            (written_in (deeds e.actor (ms ++ option_to_list (envelope_of e)) h))
            (subst (λ (t : Bool). In c (cond t (option_to_list (commit_in e.step)) []))
            (sym (eq-eqb e.actor e.actor refl))
            (subst (In c) (entry_commits ms e h up) own)));
      }
      here false is never = absurd never

      by : In c (commits_by decl e) ⊎ In c (records decl h)
          → (In c (records decl h) → IsWritten decl (ms ++ option_to_list (envelope_of e)) h c)
          → IsWritten decl ms (e ∷ h) c
      by (inl first) rest = here (is_client decl e.actor) refl first
      by (inr later) rest =
          let r : IsWritten decl (ms ++ option_to_list (envelope_of e)) h c = rest later in
          record {
            actor = r.actor;
            named = r.named;
            wrote = subst (In c) (sym (own_step r.actor ms e h))
                (In-second c (cond (e.actor == r.actor) (option_to_list (commit_in e.step)) [])
                (written_in (deeds r.actor (ms ++ option_to_list (envelope_of e)) h)) r.wrote);
          }

pub written_listed : (decl : Declaration) (ms : List Envelope) (h : List Entry) (c : Commit) (a : ℕ)
    → is_client decl a ≡ true → In c (written_in (deeds a ms h)) → In c (records decl h)
written_listed decl ms [] c a named among = absurd among
written_listed decl ms (e ∷ h) c a named among =
    by (in_either c (cond (e.actor == a) (option_to_list (commit_in e.step)) [])
    (written_in (deeds a (ms ++ option_to_list (envelope_of e)) h)) (subst (In c) (own_step a ms e h) among))
    (written_listed decl (ms ++ option_to_list (envelope_of e)) h c a named)
  where
    here : (t : Bool) → (e.actor == a) ≡ t → In c (cond t (option_to_list (commit_in e.step)) [])
        → In c (commits_by decl e)
    here true same own =
        let is : is_client decl e.actor ≡ true = ap (is_client decl) (eqb-true e.actor a same) ∙ named in
        subst (λ (t : Bool). In c (cond t (commits_in e.step) [])) (sym is) (among_commits c e.step own)
    here false other never = absurd never

    by : In c (cond (e.actor == a) (option_to_list (commit_in e.step)) [])
        ⊎ In c (written_in (deeds a (ms ++ option_to_list (envelope_of e)) h))
        → (In c (written_in (deeds a (ms ++ option_to_list (envelope_of e)) h)) → In c (records decl h))
        → In c (records decl (e ∷ h))
    by (inl first) rest = In-first c (commits_by decl e) (records decl h) (here (e.actor == a) refl first)
    by (inr later) rest = In-second c (commits_by decl e) (records decl h) (rest later)
