-- In every run each deed of a client is right for each transaction: questions come only about begun ones.
use Rattle.std.proofs.Common.{◌≡◌, ◌≢◌, ℕ, ◌+◌, ◌-◌, Bool, true, false, List, [], ◌∷◌, ◌++◌, length, Some, slice_get}
use Rattle.std.proofs.Common.{inl, inr, refl, sym, ap, ◌∙◌, subst}
use Rattle.std.specs.List.{AllByRecursion as Every}
use Rattle.std.specs.Prelude.{slice_set, MatchOption}
use Rattle.qc_list.specs.Vocabulary.{In}
use Rattle.qc_list.proofs.Members.{In-first, In-second, every-In, every-from_In, every-weaker}
use Rattle.qc_stamp.specs.declared.stamp.TxId.{TxId}
use Rattle.qc_decl.specs.Vocabulary.{IsAccepted, client_actor, controller, is_client, is_site}
use Rattle.qc_decl.specs.declared.declaration.Declaration.{Declaration}
use Rattle.qc_msg.specs.declared.message.Message.{Message}
use Rattle.qc_msg.specs.declared.message.Message.TheVariants as messages
use Rattle.qc_msg.specs.declared.turn.Posting.{Posting}
use Rattle.qc_msg.specs.declared.turn.Turn.{Turn}
use Rattle.qc_msg.specs.Vocabulary.{Deed, Entry, Sends, by, deeds, mail, posted, sends_of, tells_of, turn_deeds}
use Rattle.qc_msg.specs.Vocabulary.{writes_of, Requested}
use Rattle.qc_msg.proofs.Growth.{deeds-posted}
use Rattle.qc_script.specs.Vocabulary.{Runs, phase_of}
use Rattle.qc_script.specs.Runs as runs
use Rattle.qc_script.specs.declared.script.Script.{Script}
use Rattle.qc_core.specs.Vocabulary.{IsLawful}
use Rattle.qc_site.specs.Vocabulary.{site_after}
use Rattle.laws_turns.specs.Vocabulary.{ActsIn}
use Rattle.laws_turns.proofs.Acted.{actors_take_and_post_by_turns}
use Rattle.laws_turns.proofs.Arrivals.{what_is_ready_was_sent}
use Rattle.laws_turns.proofs.Numbered.{control_silent, phase_silent}
use Rattle.qc_promise.specs.Vocabulary.{Unborn, status}
use Rattle.laws_turns.proofs.Bounding.{lawful_turn}
use Rattle.laws_turns.proofs.InRuns.{IsResting, client_no_site, client_number, deals_acts, silent_is}
use Rattle.laws_turns.proofs.Lasting.{request_born}
use Rattle.laws_turns.proofs.SitesAsk.{SiteTells, Tells}
use Rattle.laws_turns.proofs.StatusActs.{Rests, Turns, status_acts}
use Rattle.laws_turns.proofs.TurnsGoOn.{IsNoInquiry, NoInquiries}
use Rattle.laws_turns.proofs.Moving.{Born, Good, IsSaid, asks_later, control_good, from_client, known_posts, posts_good}
use Rattle.laws_turns.proofs.Moving.{site_decides_not, site_tells, takes_good}
use Rattle.laws_turns.proofs.MessageCases.{message_cases}
use Rattle.qc_list.proofs.Booleans.{not_both}
use Rattle.qc_list.proofs.Places.{slice_get-set_same}

-- a message of a turn is among its deeds

record IsDone (p : Posting) (ds : List Deed) : Type 0 where
  number : ℕ
  among : In (Sends number p.to p.message) ds

in_sends : (n : ℕ) (ps : List Posting) (p : Posting) → In p ps → IsDone p (sends_of n ps)
in_sends n [] p among = absurd among
in_sends n (q ∷ ps) p (inl same) = record
    { number = n; among = inl (ap (λ (x : Posting). Sends n x.to x.message) same) }
in_sends n (q ∷ ps) p (inr later) = (let r : IsDone p (sends_of (n + 1) ps) = in_sends (n + 1) ps p later in
    record { number = r.number; among = inr r.among })

in_turn : (n : ℕ) (turn : Turn) (p : Posting) → In p turn.sends → IsDone p (turn_deeds n turn)
in_turn n turn p among =
    let r : IsDone p (sends_of n turn.sends) = in_sends n turn.sends p among in
    record {
      number = r.number;
      among = In-second (Sends r.number p.to p.message) (writes_of turn.write)
          (sends_of n turn.sends ++ tells_of turn.told)
          (In-first (Sends r.number p.to p.message) (sends_of n turn.sends) (tells_of turn.told) r.among);
    }

module _ (decl : Declaration) (script : Script) (accepted : IsAccepted decl) where
  -- a client's turn
  module _ (older : List Entry) (before : List Bool) (run : Runs (IsLawful decl) decl script older before)
      (good : Good decl older) (b : ℕ) (turn : Turn) (taken : slice_get before b ≡ Some true)
      (lawful : IsLawful decl b (deeds b [] older) turn)
      (named : is_client decl b ≡ true) where
    next : Runs (IsLawful decl) decl script (older ++ by b (posted (length (mail older)) turn))
        (slice_set before b false)
    next = runs.posts b turn before older run taken lawful

    turns : ActsIn decl b (older ++ by b (posted (length (mail older)) turn)) false
    turns = actors_take_and_post_by_turns decl script (older ++ by b (posted (length (mail older)) turn))
        (slice_set before b false) next b false (slice_get-set_same before b false true taken)

    no_site : is_site decl b ≡ false
    no_site = client_no_site decl b named

    rests : (tx : TxId) → Rests decl accepted b no_site named tx
        (deeds b [] (older ++ by b (posted (length (mail older)) turn)))
    rests tx = status_acts decl accepted b no_site named tx
        (deeds b [] (older ++ by b (posted (length (mail older)) turn))) false turns.above turns.acts
        (known_posts decl older good b turn b named tx)

    kept : (tx : TxId) → IsResting decl accepted b no_site named tx
        (deeds b [] (older ++ by b (posted (length (mail older)) turn)))
    kept tx = deals_acts decl accepted b no_site named tx
        (deeds b [] (older ++ by b (posted (length (mail older)) turn))) false turns.above turns.acts

    -- one that isn't unborn by this client's deeds is this client's
    born_here : (tx : TxId) → status (deeds b [] (older ++ by b (posted (length (mail older)) turn))) tx ≢ Unborn
        → Born decl (older ++ by b (posted (length (mail older)) turn)) tx
    born_here tx born =
        let mine : tx.client ≡ b - decl.sites = (rests tx).status.mine born ∙ (kept tx).keeps.own in
        let actor : b ≡ client_actor decl tx.client = sym (client_number decl b named)
        ∙ ap (λ (n : ℕ). decl.sites + n) (sym mine) in
        subst (λ (a : ℕ). status (deeds a [] (older ++ by b (posted (length (mail older)) turn))) tx ≢ Unborn) actor
        born

    asks_none : (tx : TxId) → NoInquiries turn.sends
    asks_none tx =
        let here : ActsIn decl b older true = actors_take_and_post_by_turns decl script older before run b true taken in
        let open_turn : Turns decl accepted b no_site named tx (deeds b [] older) =
        status_acts decl accepted b no_site named tx (deeds b [] older) true here.above here.acts
        (good.known b named tx) in
        lawful_turn (λ (t : Turn). NoInquiries t.sends) decl b (deeds b [] older) turn lawful
        (λ is. absurd (not_both (is_site decl b) is no_site)) (λ is client. open_turn.turn.asks)

    said : (p : Posting) → In p turn.sends → (m : Message) → p.message ≡ m
        → Tells decl (Born decl (older ++ by b (posted (length (mail older)) turn))) p.to m
    said p among m is =
        message_cases
        (λ m r a d i. p.message ≡ m → MatchOption i (MatchOption r (Unit {0})
        (λ (q : Requested). Born decl (older ++ by b (posted (length (mail older)) turn)) q.tx))
        (λ (tx : TxId). (p.to ≡ client_actor decl tx.client)
        × Born decl (older ++ by b (posted (length (mail older)) turn)) tx))
        (λ q is.
        let d : IsDone p (turn_deeds (length (mail older)) turn) = in_turn (length (mail older)) turn p among in
        let whole : In (Sends d.number p.to p.message)
        (deeds b [] (older ++ by b (posted (length (mail older)) turn))) =
        subst (In (Sends d.number p.to p.message)) (sym (deeds-posted b (length (mail older)) older turn))
        (In-second (Sends d.number p.to p.message) (deeds b [] older)
        (turn_deeds (length (mail older)) turn) d.among) in
        let asked : In (Sends d.number p.to (messages.Request q.tx q.epoch q.life q.want))
        (deeds b [] (older ++ by b (posted (length (mail older)) turn))) =
        subst (λ (x : Message). In (Sends d.number p.to x)
        (deeds b [] (older ++ by b (posted (length (mail older)) turn)))) is whole in
        born_here q.tx (request_born q.tx Unborn (deeds b [] (older ++ by b (posted (length (mail older)) turn)))
        d.number p.to q.epoch q.life q.want (rests q.tx).right asked))
        (λ a is. tt) (λ v is. tt)
        (λ tx is. absurd
        (subst IsNoInquiry is (every-In (λ (q : Posting). IsNoInquiry q.message) p turn.sends (asks_none tx) among)))
        (λ m is. tt) m is

    client_says : Every (IsSaid decl (older ++ by b (posted (length (mail older)) turn)) b) turn.sends
    client_says = every-from_In (IsSaid decl (older ++ by b (posted (length (mail older)) turn)) b) turn.sends
        (λ p among. record { tells = said p among p.message refl; sender = from_client decl b p.message named })

  site_says : (older : List Entry) (b : ℕ) (turn : Turn) → Good decl older → is_site decl b ≡ true
      → turn ≡ (site_after decl b (deeds b [] older)).turn
      → Every (IsSaid decl (older ++ by b (posted (length (mail older)) turn)) b) turn.sends
  site_says older b turn good is same =
      subst (λ (t : Turn). Every (IsSaid decl (older ++ by b (posted (length (mail older)) turn)) b) t.sends) (sym same)
      (every-weaker (λ (p : Posting). SiteTells decl
      (Born decl (older ++ by b (posted (length (mail older)) turn))) p.to p.message)
      (IsSaid decl (older ++ by b (posted (length (mail older)) turn)) b)
      (λ p w. record {
        tells = site_tells decl
            (Born decl (older ++ by b (posted (length (mail older)) turn))) p.to p.message w;
        sender = site_decides_not decl (Born decl (older ++ by b (posted (length (mail older)) turn))) b p.to
            p.message w;
      })
      (site_after decl b (deeds b [] older)).turn.sends
      (asks_later decl older (by b (posted (length (mail older)) turn)) (site_after decl b (deeds b [] older))
      (good.sites b is)).sends)

  pub all_good : (h : List Entry) (open_inputs : List Bool) → Runs (IsLawful decl) decl script h open_inputs
      → Good decl h
  all_good h open_inputs runs.begins = record {
    known = λ a named tx. tt;
    mail_is = tt;
    sites = λ a is. record { held = tt; prepared = tt; sends = tt };
  }
  all_good h open_inputs (runs.takes b g before older run free rdy) =
      takes_good decl older (all_good older before run) b g
      (what_is_ready_was_sent (IsLawful decl) decl script older before run b g rdy)
  all_good h open_inputs (runs.posts b turn before older run taken lawful) =
      let good : Good decl older = all_good older before run in
      posts_good decl older good b turn
      (lawful_turn (λ (t : Turn). t ≡ turn → Every
      (IsSaid decl (older ++ by b (posted (length (mail older)) turn)) b) turn.sends) decl b
      (deeds b [] older) turn lawful
      (λ is same. site_says older b turn good is (sym same))
      (λ is named same. client_says older before run good b turn taken lawful named) refl)
  all_good h open_inputs (runs.phase before older run none done calm more) =
      control_good decl older (controller decl) _ (silent_is (controller decl) _ (phase_silent (phase_of older + 1)))
      (all_good older before run)
  all_good h open_inputs (runs.control line lines step before older run left is) =
      control_good decl older (controller decl) step (silent_is (controller decl) step (control_silent line step is))
      (all_good older before run)
