-- Somebody posts: what was open at a site before a request is its own transaction or another client's, as before, since
-- nobody else acts while a command runs, and one's own turn opens no other transaction.
use Rattle.std.proofs.Common.{◌≡◌, ℕ, ◌+◌, ◌-◌, ◌<◌, ◌≤◌, ◌==◌, ◌⊎◌, inl, inr, Bool, true, false, List, [], ◌++◌, fold}
use Rattle.std.proofs.Common.{length, Some, None, slice_get, refl, sym, ap, ◌∙◌, subst, arith, eq-eqb, eqb-true}
use Rattle.std.specs.Prelude.{slice_set, take}
use Rattle.std.specs.List.{AllByRecursion as Every}
use Rattle.std.proofs.lemmas.List.{take-append-le}
use Rattle.std.proofs.lemmas.List.Elements.{filter-append}
use Rattle.std.proofs.lemmas.List.Sums.{fold-append}
use Rattle.std.proofs.Math.Seq.{take-append-add}
use Rattle.qc_list.specs.Vocabulary.{In}
use Rattle.qc_stamp.specs.declared.stamp.TxId.{TxId}
use Rattle.qc_core.specs.Vocabulary.{IsLawful, is_running}
use Rattle.qc_decl.specs.Vocabulary.{IsAccepted, administrator, client_actor, is_client}
use Rattle.qc_decl.specs.declared.declaration.Declaration.{Declaration}
use Rattle.qc_msg.specs.declared.message.Envelope.{Envelope}
use Rattle.qc_msg.specs.declared.message.Message.TheVariants as messages
use Rattle.qc_msg.specs.declared.turn.Posting.{Posting}
use Rattle.qc_msg.specs.declared.turn.Turn.{Turn}
use Rattle.qc_msg.specs.Vocabulary.{Deed, Entry, by, deeds, envelopes, mail, posted, turn_deeds}
use Rattle.qc_msg.proofs.GrownMail.{mail-append, mail-posted}
use Rattle.qc_msg.proofs.DeedsGrow.{deeds-other}
use Rattle.qc_msg.proofs.Growth.{deeds-posted}
use Rattle.qc_script.specs.Vocabulary.{Runs}
use Rattle.qc_script.specs.Runs.{posts}
use Rattle.qc_script.specs.declared.script.Script.{Script}
use Rattle.laws_turns.specs.Vocabulary.{ActsIn, AsksDeclared}
use Rattle.laws_turns.proofs.Acted.{actors_take_and_post_by_turns}
use Rattle.laws_turns.proofs.Numbered.{run_numbered}
use Rattle.laws_due.proofs.Courses.{deeds_of_clients_are_by_rows}
use Rattle.laws_due.specs.Vocabulary.{AreByRows}
use Rattle.qc_promise.specs.Vocabulary.{Account, ClientRequest, Current, account, account_at, new_account}
use Rattle.laws_guarantees.specs.Vocabulary.{IsStill, IsUndisturbed, begun_by, is_open, is_open_at, name_of, open_said}
use Rattle.laws_guarantees.specs.Vocabulary.{sent_before, sent_to}
use Rattle.laws_guarantees.proofs.Accounts.{HasGrounds, WasSent}
use Rattle.laws_guarantees.proofs.AnswersLater.{number_from}
use Rattle.laws_guarantees.proofs.Asking.{IsNamed, is_busy, less_open, told_clears, turn_named}
use Rattle.laws_guarantees.proofs.RequestGrounds.{has_grounds}
use Rattle.laws_guarantees.proofs.Grounds.{turn_old}
use Rattle.laws_guarantees.proofs.Mailed.{sent_as, sent_mail}
use Rattle.laws_guarantees.proofs.Names.{stays_named, untold_stays}
use Rattle.laws_guarantees.proofs.OwnWords.{client_is, open_begun}
use Rattle.laws_guarantees.proofs.PartsOf.{posted_parts}
use Rattle.laws_guarantees.proofs.Still.{one_still}
use Rattle.laws_turns.proofs.Up.{run_up}
use Rattle.laws_guarantees.proofs.OpenElsewhere.{AllClear, IsClear, IsElsewhere, begun_elsewhere, begun_same}
use Rattle.qc_core.proofs.LivesOfActors.{who_acts}
use Rattle.laws_atomic.proofs.Courses.{due-second}
use Rattle.qc_list.proofs.Places.{slice_get-set_same}

module _ (decl : Declaration) (script : Script) (accepted : IsAccepted decl) (asks : AsksDeclared decl script)
    (calm : IsUndisturbed script) where
  -- a request of an account was sent

  sent_low : (h : List Entry) (open_inputs : List Bool) → Runs (IsLawful decl) decl script h open_inputs
      → (a : ℕ) (q : ClientRequest) → In q (account decl a h).requests → q.number < length (mail h)
  sent_low h open_inputs run a q among =
      let k : HasGrounds (deeds a [] h) (account decl a h) = has_grounds decl (a - decl.sites) (deeds a [] h) in
      let s : (t : Current) × ((account decl a h).current ≡ Some t) × WasSent (deeds a [] h) q t.tx = k.sent q among in
      let e : In (sent_as a q.number q.site (messages.Request s.0.tx s.2.epoch q.life q.want)) (mail h) =
      sent_mail a [] h q.number q.site (messages.Request s.0.tx s.2.epoch q.life q.want) s.2.is in
      let low : q.number < 0 + length (mail h) =
      (number_from 0 (mail h) (sent_as a q.number q.site (messages.Request s.0.tx s.2.epoch q.life q.want))
      (run_numbered (IsLawful decl) decl script h open_inputs run) e).1 in
      omega arith

  -- somebody posts

  module _ (older : List Entry) (before : List Bool) (run : Runs (IsLawful decl) decl script older before) (b : ℕ)
      (turn : Turn) (is_opened : slice_get before b ≡ Some true) (lawful : IsLawful decl b (deeds b [] older) turn)
      (clear : AllClear decl older) where
    abbrev now_posted : List Entry
    now_posted = older ++ by b (posted (length (mail older)) turn)

    n : ℕ
    n = length (mail older)

    next : Runs (IsLawful decl) decl script now_posted (slice_set before b false)
    next = posts b turn before older run is_opened lawful

    mailed : mail now_posted ≡ mail older ++ envelopes b (length (mail older)) turn.sends
    mailed =
        mail-append older (by b (posted (length (mail older)) turn))
        ∙ ap (λ (v : List Envelope). mail older ++ v) (mail-posted b (length (mail older)) turn)

    -- what was sent before an earlier request stays
    before_same : (s k : ℕ) → k ≤ length (mail older)
        → sent_before s k (mail now_posted) ≡ sent_before s k (mail older)
    before_same s k low =
        ap (sent_before s k) mailed
        ∙ ap (sent_to s) (take-append-le k (mail older) (envelopes b (length (mail older)) turn.sends) low)

    -- a request of another client, whose command runs: so the poster doesn't act
    module _ (a : ℕ) (named : is_client decl a ≡ true) (other_actor : (b == a) ≡ false) where
      same : deeds a [] now_posted ≡ deeds a [] older
      same = deeds-other b a [] older (posted (length (mail older)) turn) other_actor

      differs : a ≡ b → ⊥
      differs e = let here : (b == a) ≡ true = eq-eqb b a (sym e) in let never : ⊥ = cc in never

      begun_on : (q : ClientRequest) → In q (account decl a older).requests → (x : TxId)
          → begun_by decl (client_actor decl x.client) older ≡ Some x
          → begun_by decl (client_actor decl x.client) now_posted ≡ Some x
      begun_on q among x was = split (client_actor decl x.client == b) refl
        where
          runs : is_running (deeds a [] older) ≡ true
          runs = (is_busy decl (a - decl.sites) (deeds a [] older)
              (run_up (IsLawful decl) decl script older before run a)).requests q among

          low : b < administrator decl
          low = who_acts decl b (deeds b [] older) turn lawful

          still_at : (h : List Entry) (open_inputs : List Bool) → Runs (IsLawful decl) decl script h open_inputs
              → is_client decl b ≡ true → is_running (deeds a [] h) ≡ true → IsStill decl script b h
          still_at h open_inputs run_h poster running =
              at (one_still decl script accepted asks calm h open_inputs run_h a b named poster differs)
            where
              at : IsStill decl script a h ⊎ IsStill decl script b h → IsStill decl script b h
              at (inl s) =
                  absurd (let rests : is_running (deeds a [] h) ≡ false = s.running in let never : ⊥ = cc in never)
              at (inr s) = s

          poster_still : is_client decl b ≡ true → begun_by decl b now_posted ≡ begun_by decl b older
          poster_still poster =
              let first : IsStill decl script b older = still_at older before run poster runs in
              let second : IsStill decl script b now_posted =
              still_at now_posted (slice_set before b false) next poster (ap is_running same ∙ runs) in
              second.name ∙ ap (begun_by decl b) (posted_parts older b (length (mail older)) turn) ∙ sym first.name

          split : (t : Bool) → (client_actor decl x.client == b) ≡ t
              → begun_by decl (client_actor decl x.client) now_posted ≡ Some x
          split true here =
              let is : client_actor decl x.client ≡ b = eqb-true (client_actor decl x.client) b here in
              let above : decl.sites ≤ b = (let sum : decl.sites + x.client ≡ b = is in omega arith) in
              ap (λ (c : ℕ). begun_by decl c now_posted) is
              ∙ poster_still (client_is decl script accepted asks older before run b above low)
              ∙ ap (λ (c : ℕ). begun_by decl c older) (sym is) ∙ was
          split false there =
              begun_elsewhere decl b (length (mail older)) turn older (client_actor decl x.client)
              (λ e. let here : (client_actor decl x.client == b) ≡ true = eq-eqb (client_actor decl x.client) b e in
              let never : ⊥ = cc in never) ∙ was

      others_clear : (q : ClientRequest) → In q (account decl a now_posted).requests → IsClear decl a now_posted q
      others_clear q among x is unnamed =
          let old : In q (account decl a older).requests =
          subst (λ (ds : List Deed). In q (fold (account_at decl) (new_account (a - decl.sites)) ds).requests)
          same among in
          let low : q.number < length (mail older) = sent_low older before run a q old in
          let was : is_open x (sent_before q.site q.number (mail older)) ≡ true =
          ap (is_open x) (sym (before_same q.site q.number (omega arith))) ∙ is in
          let e : IsElsewhere decl a older x =
          clear a named q old x was (λ name. unnamed (begun_same decl a older now_posted same ∙ name)) in
          record { elsewhere = e.elsewhere; still = begun_on q old x e.still }

    -- one of the poster's own
    module _ (named : is_client decl b ≡ true) where
      grown : deeds b [] now_posted ≡ deeds b [] older ++ turn_deeds (length (mail older)) turn
      grown = deeds-posted b (length (mail older)) older turn

      becomes : account decl b now_posted
          ≡ fold (account_at decl) (account decl b older) (turn_deeds (length (mail older)) turn)
      becomes =
          ap (λ (ds : List Deed). fold (account_at decl) (new_account (b - decl.sites)) ds) grown
          ∙ fold-append (account_at decl) (new_account (b - decl.sites)) (deeds b [] older)
          (turn_deeds (length (mail older)) turn)

      all_named : Every (λ (p : Posting). IsNamed (begun_by decl b older) p.message) turn.sends
      all_named =
          let acts : ActsIn decl b now_posted false =
          actors_take_and_post_by_turns decl script now_posted (slice_set before b false) next b false
          (slice_get-set_same before b false true is_opened) in
          turn_named decl (account decl b older) (length (mail older)) turn
          (due-second decl (new_account (b - decl.sites)) (deeds b [] older) (turn_deeds (length (mail older)) turn)
          (subst (λ (ds : List Deed). AreByRows decl (new_account (b - decl.sites)) ds) grown
          (deeds_of_clients_are_by_rows decl b named (deeds b [] now_posted) false acts.above acts.acts)))

      own_clear : (q : ClientRequest) → In q (account decl b now_posted).requests → IsClear decl b now_posted q
      own_clear q among x is unnamed = split (turn_old decl (account decl b older) (length (mail older)) turn q here)
        where
          here : In q (fold (account_at decl) (account decl b older) (turn_deeds (length (mail older)) turn)).requests
          here = subst (λ (d : Account). In q d.requests) becomes among

          kept : begun_by decl b now_posted ≡ begun_by decl b older
          kept =
              ap name_of becomes
              ∙ stays_named (account decl b older)
              (fold (account_at decl) (account decl b older) (turn_deeds (length (mail older)) turn))
              (untold_stays decl (account decl b older) (length (mail older)) turn
              (told_clears decl (account decl b older) (length (mail older)) turn q here))

          unnamed_before : begun_by decl b older ≡ Some x → ⊥
          unnamed_before name = unnamed (kept ∙ name)

          on : IsElsewhere decl b older x → IsElsewhere decl b now_posted x
          on e =
              record {
                elsewhere = e.elsewhere;
                still = begun_elsewhere decl b (length (mail older)) turn older (client_actor decl x.client) e.elsewhere
                    ∙ e.still;
              }

          -- a new request: this turn opens no other transaction, so it was open before
          new : length (mail older) ≤ q.number → is_open_at q.site x (mail older) ≡ true
          new late =
              let m : ℕ = q.number - length (mail older) in
              let sum : q.number ≡ length (mail older) + (q.number - length (mail older)) = omega arith in
              let cut : take q.number (mail older ++ envelopes b (length (mail older)) turn.sends)
              ≡ mail older ++ take (q.number - length (mail older)) (envelopes b (length (mail older)) turn.sends) =
              ap (λ (k : ℕ). take k (mail older ++ envelopes b (length (mail older)) turn.sends)) sum
              ∙ take-append-add (mail older) (envelopes b (length (mail older)) turn.sends)
              (q.number - length (mail older)) in
              let whole : sent_before q.site q.number (mail now_posted)
              ≡ sent_to q.site (mail older)
              ++ sent_to q.site
              (take (q.number - length (mail older)) (envelopes b (length (mail older)) turn.sends)) =
              ap (sent_before q.site q.number) mailed ∙ ap (sent_to q.site) cut
              ∙ filter-append (λ (e : Envelope). e.to == q.site) (mail older)
              (take (q.number - length (mail older)) (envelopes b (length (mail older)) turn.sends)) in
              less_open x (begun_by decl b older) unnamed_before q.site b (length (mail older))
              (q.number - length (mail older)) turn.sends (is_open_at q.site x (mail older)) all_named
              (sym
              (fold-append (λ (was : Bool) (e : Envelope). open_said x was e.message) false
              (sent_to q.site (mail older))
              (sent_to q.site
              (take (q.number - length (mail older)) (envelopes b (length (mail older)) turn.sends))))
              ∙ ap (is_open x) (sym whole) ∙ is)

          split : In q (account decl b older).requests ⊎ ((length (mail older) ≤ q.number) × (q.taken ≡ None))
              → IsElsewhere decl b now_posted x
          split (inl old) =
              let low : q.number < length (mail older) = sent_low older before run b q old in
              on (clear b named q old x (ap (is_open x) (sym (before_same q.site q.number (omega arith))) ∙ is)
              unnamed_before)
          split (inr late) =
              let begun : begun_by decl (client_actor decl x.client) older ≡ Some x =
              open_begun decl script accepted asks older before run q.site x (new late.0) in
              on (record {
                elsewhere = λ e. unnamed_before (ap (λ (c : ℕ). begun_by decl c older) (sym e) ∙ begun);
                still = begun;
              })

    pub posts_clear : AllClear decl now_posted
    posts_clear a named q among = at (b == a) refl
      where
        at : (t : Bool) → (b == a) ≡ t → IsClear decl a now_posted q
        at true here =
            let is : b ≡ a = eqb-true b a here in
            subst (λ (k : ℕ). IsClear decl k now_posted q) is
            (own_clear (ap (is_client decl) is ∙ named) q
            (subst (λ (k : ℕ). In q (account decl k now_posted).requests) (sym is) among))
        at false other = others_clear a named other q among
