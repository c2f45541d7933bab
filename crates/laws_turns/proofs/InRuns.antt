-- What every run has: it goes event by event, each actor has a place, and a client keeps what it was told.
use Rattle.std.proofs.Common.{◌≡◌, ℕ, zero, suc, ◌+◌, ◌-◌, ◌<◌, ◌≤◌, ◌==◌, Bool, true, false, List, [], ◌∷◌, ◌++◌, fold}
use Rattle.std.proofs.Common.{Some, slice_get, refl, sym, ap, ◌∙◌, subst, arith, eq-eqb, eqb-true}
use Rattle.std.specs.Prelude.{replicate, slice_set}
use Rattle.std.proofs.lemmas.List.Sums.{fold-append}
use Rattle.qc_decl.specs.Vocabulary.{IsAccepted, actors, controller, is_client, is_site}
pub use Rattle.qc_decl.proofs.Clients.{client_no_site, client_within as client_low}
use Rattle.qc_decl.proofs.Clients.{client_past}
use Rattle.qc_decl.specs.declared.declaration.Declaration.{Declaration}
use Rattle.qc_stamp.specs.declared.stamp.TxId.{TxId}
use Rattle.qc_entry.specs.declared.record.Commit.{Commit}
use Rattle.qc_msg.specs.declared.step.Input.{Input}
use Rattle.qc_msg.specs.declared.step.Input.TheVariants as inputs
use Rattle.qc_msg.specs.declared.step.Step.{Step}
use Rattle.qc_msg.specs.declared.turn.Turn.{Turn}
use Rattle.qc_msg.specs.Vocabulary.{Deed, Entry, Takes, deeds, quiet, turn_deeds}
use Rattle.qc_script.specs.Vocabulary.{Runs, phase_of}
use Rattle.qc_script.specs.Runs as runs
use Rattle.qc_script.specs.declared.script.Script.{Script}
use Rattle.qc_client.specs.declared.client.Client.{Client}
use Rattle.qc_client.specs.Vocabulary.{ClientMove, IsReady, client_after, client_does, client_takes, moved, new_client}
use Rattle.qc_core.specs.Vocabulary.{Acts, IsLawful, MayTake, is_running}
use Rattle.qc_core.specs.Acts as acts
use Rattle.qc_core.proofs.ActorSent.{known}
use Rattle.qc_core.proofs.ClientStands.{Stands}
use Rattle.laws_turns.specs.Vocabulary.{ActsIn, written_in}
use Rattle.laws_turns.proofs.Acted.{actors_take_and_post_by_turns}
use Rattle.laws_turns.proofs.Arrivals.{what_is_ready_was_sent}
use Rattle.laws_turns.proofs.Numbered.{IsSilent, control_silent, phase_silent}
use Rattle.qc_promise.specs.Vocabulary.{Dealing, deal, deal_taken, dealing_in, no_dealing}
use Rattle.laws_turns.proofs.Events.{Events, IsControl}
use Rattle.laws_turns.proofs.Events as events
use Rattle.laws_turns.proofs.Bounding.{lawful_turn, turn-posts}
use Rattle.laws_turns.proofs.DealtCommands.{IsAfter, Keeps, commits_of}
use Rattle.laws_turns.proofs.DealtClients.{at_rest, input-keeps, posts-keep, taken-keeps, turn_told}
use Rattle.laws_turns.proofs.DealtOperations.{told_deal}
use Rattle.laws_turns.proofs.WrittenDeeds.{desk_posts, written-more, written-turn}
use Rattle.qc_list.proofs.Places.{slice_get-set_other, slice_get-set_same}

-- every run goes event by event

pub silent_is : (a : ℕ) (step : Step) → IsSilent step → IsControl a step
silent_is a step silent = record { undone = silent.deeds; unsent = silent.sends a }

pub run_events : (decl : Declaration) (script : Script) (h : List Entry) (open_inputs : List Bool)
    → Runs (IsLawful decl) decl script h open_inputs → Events decl h
run_events decl script h open_inputs runs.begins = events.begins
run_events decl script h open_inputs (runs.takes a g before older run free rdy) =
    events.takes a g older (run_events decl script older before run)
    (what_is_ready_was_sent (IsLawful decl) decl script older before run a g rdy)
run_events decl script h open_inputs (runs.posts a turn before older run taken lawful) =
    events.posts a turn older (run_events decl script older before run) lawful
run_events decl script h open_inputs (runs.phase before older run none done calm more) =
    events.controls (controller decl) _ older (run_events decl script older before run)
    (silent_is (controller decl) _ (phase_silent (phase_of older + 1)))
run_events decl script h open_inputs (runs.control line lines step before older run left is) =
    events.controls (controller decl) step older (run_events decl script older before run)
    (silent_is (controller decl) step (control_silent line step is))

-- each actor has a place

pub record HasPlace (open_inputs : List Bool) (a : ℕ) : Type 0 where
  pub is_open : Bool
  pub at : slice_get open_inputs a ≡ Some is_open

replicate_has : (n a : ℕ) → a < n → HasPlace (replicate n false) a
replicate_has zero a low = absurd (omega arith)
replicate_has (suc n) zero low = record { is_open = false; at = refl }
replicate_has (suc n) (suc a) low = let r : HasPlace (replicate n false) a = replicate_has n a (omega arith) in
    record { is_open = r.is_open; at = r.at }

set_has : (xs : List Bool) (b a : ℕ) (v : Bool) → HasPlace xs b → HasPlace xs a → HasPlace (slice_set xs b v) a
set_has xs b a v there here = by (b == a) refl where
  by : (t : Bool) → (b == a) ≡ t → HasPlace (slice_set xs b v) a
  by true same = subst (HasPlace (slice_set xs b v)) (eqb-true b a same)
      (record { is_open = v; at = slice_get-set_same xs b v there.is_open there.at })
  by false other =
      record {
        is_open = here.is_open;
        at = slice_get-set_other xs b a v
            (λ same. let is : (b == a) ≡ true = eq-eqb b a same in let no : ⊥ = cc in no) ∙ here.at;
      }

pub run_place : (decl : Declaration) (script : Script) (h : List Entry) (open_inputs : List Bool)
    → Runs (IsLawful decl) decl script h open_inputs → (a : ℕ) → a < actors decl → HasPlace open_inputs a
run_place decl script h open_inputs runs.begins a low = replicate_has (actors decl) a low
run_place decl script h open_inputs (runs.takes b g before older run free rdy) a low =
    set_has before b a true (record { is_open = false; at = free }) (run_place decl script older before run a low)
run_place decl script h open_inputs (runs.posts b turn before older run taken lawful) a low =
    set_has before b a false (record { is_open = true; at = taken }) (run_place decl script older before run a low)
run_place decl script h open_inputs (runs.phase before older run none done calm more) a low =
    run_place decl script older before run a low
run_place decl script h open_inputs (runs.control line lines step before older run left is) a low =
    run_place decl script older before run a low

pub client_number : (decl : Declaration) (a : ℕ) → is_client decl a ≡ true → decl.sites + (a - decl.sites) ≡ a
client_number decl a is = let above : decl.sites ≤ a = client_past decl a is in omega arith

-- what a client keeps, over its deeds by turns

-- a client with what it was told, and its records are those that it wrote
pub record IsKept (k : ℕ) (tx : TxId) (ds : List Deed) : Type 0 where
  pub client : Client
  pub keeps : Keeps k tx (dealing_in ds tx) (dealing_in ds tx) client
  pub written : client.desk.commits ≡ written_in ds

module _ (decl : Declaration) (accepted : IsAccepted decl) (a : ℕ) (no_site : is_site decl a ≡ false)
    (named : is_client decl a ≡ true) (tx : TxId) where
  abbrev k : ℕ
  k = a - decl.sites

  pub record IsTaken (ds : List Deed) : Type 0 where
    pub kept : IsKept (a - decl.sites) tx ds
    pub after : IsAfter (a - decl.sites) tx (dealing_in ds tx) kept.client (client_after decl (a - decl.sites) ds)

  pub record IsResting (ds : List Deed) : Type 0 where
    pub keeps : Keeps (a - decl.sites) tx (dealing_in ds tx) (dealing_in ds tx)
        (client_after decl (a - decl.sites) ds).client
    pub written : (client_after decl (a - decl.sites) ds).client.desk.commits ≡ written_in ds

  abbrev pub KeptBy : List Deed → Bool → Type 0
  KeptBy ds true = IsTaken ds
  KeptBy ds false = IsResting ds

  ready_for : (before : List Deed) (g : Input) (c : Client) → Stands decl (is_running before) c → MayTake before g
      → IsReady c g
  ready_for before (inputs.Called command) c stands may = stands.free may
  ready_for before (inputs.Got e) c stands may = tt
  ready_for before (inputs.Lost number) c stands may = tt

  pub deals_acts : (ds : List Deed) (b : Bool) (n : ℕ) → Acts decl a ds b n → KeptBy ds b
  deals_acts ds b n acts.starts = record {
    keeps = record {
      own = refl;
      desk = refl;
      dealing = record {
        is = refl;
        ops = tt;
        done = λ c among its. absurd among;
        told = λ stamp among. absurd among;
        others = λ r among abort c listed its. absurd among;
        mine = λ r among. absurd among;
        new = λ l c m. (refl, refl);
      };
      book = record {
        past = λ c among. absurd among;
        named = tt;
        own = λ c among. absurd among;
        below = λ c among. absurd among;
        stamps = λ c d one two same. absurd one;
        transactions = λ c d one two same. absurd one;
        rising = λ i j d l m. absurd (omega arith);
      };
      asked_for = tt;
      hand = tt;
    };
    written = refl;
  }
  deals_acts ds b n (acts.takes before g m done may) =
      let old : IsResting before = deals_acts before false m done in
      let stands : Stands decl (is_running before) (client_after decl (a - decl.sites) before).client =
      known decl a before false m accepted.has_site accepted.sites no_site named done in
      let ready : IsReady (client_after decl (a - decl.sites) before).client g =
      ready_for before g (client_after decl (a - decl.sites) before).client stands may in
      let told : dealing_in (before ++ Takes g ∷ []) tx ≡ deal_taken (dealing_in before tx) g =
      fold-append (deal tx) no_dealing before (Takes g ∷ []) in
      let move : client_after decl (a - decl.sites) (before ++ Takes g ∷ []) ≡ client_takes decl
      (client_after decl (a - decl.sites) before).client g =
      fold-append (client_does decl) (moved (new_client (a - decl.sites)) quiet) before (Takes g ∷ []) in
      record {
        kept = record {
          client = (client_after decl (a - decl.sites) before).client;
          keeps = subst (λ (d : Dealing). Keeps (a - decl.sites) tx d d
              (client_after decl (a - decl.sites) before).client) (sym told)
              (taken-keeps (a - decl.sites) tx (dealing_in before tx)
              (client_after decl (a - decl.sites) before).client g old.keeps ready);
          written = old.written ∙ sym (written-more before g);
        };
        after = subst (λ (d : Dealing). IsAfter (a - decl.sites) tx d (client_after decl (a - decl.sites) before).client
            (client_after decl (a - decl.sites) (before ++ Takes g ∷ []))) (sym told)
            (subst (IsAfter (a - decl.sites) tx (deal_taken (dealing_in before tx) g)
            (client_after decl (a - decl.sites) before).client) (sym move)
            (input-keeps decl (a - decl.sites) tx (dealing_in before tx)
            (client_after decl (a - decl.sites) before).client g old.keeps ready));
      }
  deals_acts ds b n (acts.posts before turn m first done above lawful) =
      let old : IsTaken before = deals_acts before true m done in
      let its : turn ≡ (client_after decl (a - decl.sites) before).turn =
      lawful_turn (λ (t : Turn). t ≡ (client_after decl (a - decl.sites) before).turn) decl a before turn lawful
      (λ is. absurd (let no : ⊥ = cc in no)) (λ is named. refl) in
      let told : dealing_in (before ++ turn_deeds first turn) tx ≡ told_deal tx (dealing_in before tx)
      (client_after decl (a - decl.sites) before).turn.told =
      fold-append (deal tx) no_dealing before (turn_deeds first turn) ∙ turn_told tx (dealing_in before tx) first turn
      ∙ ap (λ (t : Turn). told_deal tx (dealing_in before tx) t.told) its in
      let move : client_after decl (a - decl.sites) (before ++ turn_deeds first turn) ≡ fold (client_does decl)
      (client_after decl (a - decl.sites) before) (turn_deeds first turn) =
      fold-append (client_does decl) (moved (new_client (a - decl.sites)) quiet) before (turn_deeds first turn) in
      record {
        keeps = subst (λ (d : Dealing). Keeps (a - decl.sites) tx d d
            (client_after decl (a - decl.sites) (before ++ turn_deeds first turn)).client) (sym told)
            (subst (λ (x : ClientMove). Keeps (a - decl.sites) tx
            (told_deal tx (dealing_in before tx) (client_after decl (a - decl.sites) before).turn.told)
            (told_deal tx (dealing_in before tx) (client_after decl (a - decl.sites) before).turn.told) x.client)
            (sym move)
            (posts-keep decl (a - decl.sites) tx (told_deal tx (dealing_in before tx)
            (client_after decl (a - decl.sites) before).turn.told)
            (told_deal tx (dealing_in before tx) (client_after decl (a - decl.sites) before).turn.told)
            (client_after decl (a - decl.sites) before) (turn_deeds first turn) (turn-posts first turn)
            (at_rest (a - decl.sites) tx (dealing_in before tx) (client_after decl (a - decl.sites) before).turn.told
            (client_after decl (a - decl.sites) before).client old.after.keeps)));
        written =
            ap (λ (x : ClientMove). x.client.desk.commits) move
            ∙ desk_posts decl (client_after decl (a - decl.sites) before) (turn_deeds first turn)
            (turn-posts first turn)
            ∙ old.after.written
            ∙ ap (λ (cs : List Commit). cs ++ commits_of (client_after decl (a - decl.sites) before).turn.write)
            old.kept.written
            ∙ ap (λ (t : Turn). written_in before ++ commits_of t.write) (sym its)
            ∙ sym (written-turn before first turn);
      }

  pub kept_acts : (ds : List Deed) (b : Bool) (n : ℕ) → Acts decl a ds b n → IsKept (a - decl.sites) tx ds
  kept_acts ds b n done = by b (deals_acts ds b n done) where
    by : (b : Bool) → KeptBy ds b → IsKept (a - decl.sites) tx ds
    by true taken = taken.kept
    by false resting = record {
      client = (client_after decl (a - decl.sites) ds).client;
      keeps = resting.keeps;
      written = resting.written;
    }

-- so in every run
pub run_kept : (decl : Declaration) (script : Script) (h : List Entry) (open_inputs : List Bool) → IsAccepted decl
    → Runs (IsLawful decl) decl script h open_inputs
    → (a : ℕ) → is_client decl a ≡ true → (tx : TxId) → IsKept (a - decl.sites) tx (deeds a [] h)
run_kept decl script h open_inputs accepted run a named tx =
    let place : HasPlace open_inputs a = run_place decl script h open_inputs run a (client_low decl a named) in
    let turns : ActsIn decl a h place.is_open =
    actors_take_and_post_by_turns decl script h open_inputs run a place.is_open place.at in
    kept_acts decl accepted a (client_no_site decl a named) named tx (deeds a [] h) place.is_open turns.above turns.acts
