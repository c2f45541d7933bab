-- Each actor calls a command only where none runs, and tells a reply only where one does; so it told one to each
-- command that it called, but for the one that runs.
use Rattle.std.proofs.Common.{[], ◌≡◌, ℕ, ◌+◌, ◌-◌, ◌&&◌, not, Bool, true, false, cond, if◌then◌else◌, List, ◌∷◌, ◌++◌}
use Rattle.std.proofs.Common.{length, Option, Some, None, is_some, refl, sym, ap, ◌∙◌, subst, arith, append_assoc}
use Rattle.std.proofs.Common.{length-append}
use Rattle.std.specs.List.{filter_map}
use Rattle.std.proofs.lemmas.List.{append-nil}
use Rattle.std.proofs.lemmas.List.Elements.{filter_map-append}
use Rattle.qc_core.specs.Vocabulary.{Acts, AreSteady, IsLawful, IsSteady, MayTake, is_running, posts, runs_at, starts}
use Rattle.qc_core.specs.Vocabulary.{takes}
use Rattle.qc_decl.specs.declared.declaration.Declaration.{Declaration}
use Rattle.qc_decl.specs.Vocabulary.{is_client, is_site}
use Rattle.qc_msg.specs.declared.record.Record.{Record}
use Rattle.qc_msg.specs.declared.reply.Reply.{Reply}
use Rattle.qc_msg.specs.declared.step.Input.{Input}
use Rattle.qc_msg.specs.declared.step.Input.TheVariants as inputs
use Rattle.qc_msg.specs.declared.turn.Posting.{Posting}
use Rattle.qc_msg.specs.declared.turn.Turn.{Turn}
use Rattle.qc_msg.specs.Vocabulary.{Deed, Falls, Rises, Sends, Takes, Tells, Writes, sends_of, tells_of, turn_deeds}
use Rattle.qc_msg.specs.Vocabulary.{writes_of}
use Rattle.qc_client.specs.Vocabulary.{ClientMove, client_after, client_takes}
use Rattle.qc_site.specs.Vocabulary.{site_after}
use Rattle.laws_turns.specs.Vocabulary.{AreInOrder, IsInOrder, call_in, is_waiting, reply_in}
use Rattle.laws_turns.proofs.Stamped.{site_answering}
use Rattle.laws_turns.proofs.TurnReplies.{running_more, running_turn, after_taken, after_posted, Replies, given_replies}

-- over an actor's turns

module _ (decl : Declaration) (a : ℕ) where
  abbrev RestsAt : List Deed → Type 0
  RestsAt ds = is_running ds ≡ false → is_waiting (client_after decl (a - decl.sites) ds).client ≡ false

  abbrev RepliesAt : List Deed → Bool → Type 0
  RepliesAt ds false = RestsAt ds
  RepliesAt ds true = Replies (is_running ds) (client_after decl (a - decl.sites) ds)

  pub lawful_client : is_site decl a ≡ false → is_client decl a ≡ true → (ds : List Deed) (turn : Turn)
      → IsLawful decl a ds turn → turn ≡ (client_after decl (a - decl.sites) ds).turn
  lawful_client no_site client ds turn law = by (is_site decl a) (is_client decl a) no_site client law
    where
      by : (s c : Bool) → s ≡ false → c ≡ true
          → (if s then Some (site_after decl a ds).turn else
          (if c then Some (client_after decl (a - decl.sites) ds).turn else None)) ≡ Some turn
          → turn ≡ (client_after decl (a - decl.sites) ds).turn
      by true c not_site is_one is = absurd (let never : ⊥ = cc in never)
      by false true not_site is_one is = let it : turn ≡ (client_after decl (a - decl.sites) ds).turn = cc in it
      by false false not_site is_one is = absurd (let never : ⊥ = cc in never)

  post_rests : (ds : List Deed) (turn : Turn) (first : ℕ) → turn ≡ (client_after decl (a - decl.sites) ds).turn
      → Replies (is_running ds) (client_after decl (a - decl.sites) ds) → RestsAt (ds ++ turn_deeds first turn)
  post_rests ds turn first is replies none =
      after_posted decl (a - decl.sites) ds first turn
      ∙ replies.waits
      (ap (λ (t : Turn). is_running ds && not (is_some t.told)) (sym is)
      ∙ sym (running_more ds (turn_deeds first turn) ∙ running_turn (is_running ds) first turn) ∙ none)

  take_replies : (ds : List Deed) (g : Input) → MayTake ds g → RestsAt ds
      → Replies (is_running (ds ++ Takes g ∷ [])) (client_after decl (a - decl.sites) (ds ++ Takes g ∷ []))
  take_replies ds g may rests =
      subst (λ (m : ClientMove). Replies (is_running (ds ++ Takes g ∷ [])) m)
      (sym (after_taken decl (a - decl.sites) ds g))
      (subst (λ (r : Bool). Replies r (client_takes decl (client_after decl (a - decl.sites) ds).client g))
      (sym (running_more ds (Takes g ∷ [])))
      (given_replies decl (client_after decl (a - decl.sites) ds) ds g may rests))

  module _ (no_site : is_site decl a ≡ false) (client : is_client decl a ≡ true) where
    pub client_replies : (ds : List Deed) (t : Bool) (n : ℕ) → Acts decl a ds t n → RepliesAt ds t
    client_replies ds t n starts = λ none. refl
    client_replies ds t n (takes older g m acts may) = take_replies older g may (client_replies older false m acts)
    client_replies ds t n (posts older turn m first acts low law) =
        post_rests older turn first (lawful_client no_site client older turn law) (client_replies older true m acts)

    told_by_client : (ds : List Deed) (n : ℕ) (turn : Turn) → Acts decl a ds true n → IsLawful decl a ds turn
        → is_some turn.told ≡ true → is_running ds ≡ true
    told_by_client ds n turn acts law told =
        (client_replies ds true n acts).tells
        (ap (λ (t : Turn). is_some t.told) (sym (lawful_client no_site client ds turn law)) ∙ told)

  -- sites tell nothing
  told_by_site : is_site decl a ≡ true → (ds : List Deed) (turn : Turn) → IsLawful decl a ds turn
      → is_some turn.told ≡ true → ⊥
  told_by_site site ds turn law told = by (is_site decl a) site law
    where
      by : (s : Bool) → s ≡ true
          → (if s then Some (site_after decl a ds).turn else
          (if is_client decl a then Some (client_after decl (a - decl.sites) ds).turn else None)) ≡ Some turn → ⊥
      by true is law_is =
          let same : turn ≡ (site_after decl a ds).turn = cc in
          let none : turn.told ≡ None = ap (λ (t : Turn). t.told) same ∙ (site_answering decl a ds).told in
          let no : is_some turn.told ≡ false = ap is_some none in
          let never : ⊥ = cc in never
      by false is law_is = let never : ⊥ = cc in never

  pub told_runs : (ds : List Deed) (n : ℕ) (turn : Turn) → Acts decl a ds true n → IsLawful decl a ds turn
      → is_some turn.told ≡ true → is_running ds ≡ true
  told_runs ds n turn acts law told = by (is_site decl a) (is_client decl a) refl refl law
    where
      by : (s c : Bool) → is_site decl a ≡ s → is_client decl a ≡ c
          → (if s then Some (site_after decl a ds).turn else
          (if c then Some (client_after decl (a - decl.sites) ds).turn else None)) ≡ Some turn → is_running ds ≡ true
      by true c site client is = absurd (told_by_site site ds turn law told)
      by false true no_site client is = told_by_client no_site client ds n turn acts law told
      by false false no_site no_client is = absurd (let never : ⊥ = cc in never)

  -- so commands and replies are in order

  order_more : (before xs ys : List Deed) → AreInOrder before xs → AreInOrder (before ++ xs) ys
      → AreInOrder before (xs ++ ys)
  order_more before [] ys first second = subst (λ (v : List Deed). AreInOrder v ys) (append-nil before) second
  order_more before (d ∷ xs) ys first second = (
    first.0,
    order_more (before ++ d ∷ []) xs ys first.1
        (subst (λ (v : List Deed). AreInOrder v ys) (sym (append_assoc before (d ∷ []) xs)) second),
  )

  sends_ordered : (before : List Deed) (n : ℕ) (ps : List Posting) (told : Option Reply)
      → (is_some told ≡ true → is_running before ≡ true) → AreInOrder before (sends_of n ps ++ tells_of told)
  sends_ordered before n [] None runs = tt
  sends_ordered before n [] (Some reply) runs = (runs refl, tt)
  sends_ordered before n (p ∷ ps) told runs = (
    tt,
    sends_ordered (before ++ Sends n p.to p.message ∷ []) (n + 1) ps told
        (λ is. running_more before (Sends n p.to p.message ∷ []) ∙ runs is),
  )

  turn_ordered : (before : List Deed) (n : ℕ) (turn : Turn) → (is_some turn.told ≡ true → is_running before ≡ true)
      → AreInOrder before (turn_deeds n turn)
  turn_ordered before n turn runs = by turn.write
    where
      by : (w : Option Record) → AreInOrder before (writes_of w ++ (sends_of n turn.sends ++ tells_of turn.told))
      by None = sends_ordered before n turn.sends turn.told runs
      by (Some written) = (
        tt,
        sends_ordered (before ++ Writes written ∷ []) n turn.sends turn.told
            (λ is. running_more before (Writes written ∷ []) ∙ runs is),
      )

  pub acts_ordered : (ds : List Deed) (t : Bool) (n : ℕ) → Acts decl a ds t n → AreInOrder [] ds
  acts_ordered ds t n starts = tt
  acts_ordered ds t n (takes older g m acts may) =
      order_more [] older (Takes g ∷ []) (acts_ordered older false m acts) (may, tt)
  acts_ordered ds t n (posts older turn m first acts low law) =
      order_more [] older (turn_deeds first turn) (acts_ordered older true m acts)
      (turn_ordered older first turn (told_runs older m turn acts law))

-- and each command that was called has its reply, but for the one that runs

abbrev pub open_commands : Bool → ℕ
open_commands running = cond running 1 0

one_deed : (before : List Deed) (d : Deed) → IsInOrder before d → IsSteady d
    → length (filter_map call_in (d ∷ [])) + open_commands (is_running before)
    ≡ length (filter_map reply_in (d ∷ [])) + open_commands (runs_at (is_running before) d)
one_deed before (Takes (inputs.Called command)) is up = ap (λ (r : Bool). 1 + open_commands r) is
one_deed before (Takes (inputs.Got envelope)) is up = refl
one_deed before (Takes (inputs.Lost number)) is up = refl
one_deed before (Writes written) is up = refl
one_deed before (Sends number to message) is up = refl
one_deed before (Tells reply) is up =
    let one : open_commands (is_running before) ≡ 1 = ap open_commands is in omega arith
one_deed before (Falls cause pending) is up = absurd up
one_deed before (Rises records) is up = absurd up

pub counted_from : (before ds : List Deed) → AreInOrder before ds → AreSteady ds
    → length (filter_map call_in ds) + open_commands (is_running before)
    ≡ length (filter_map reply_in ds) + open_commands (is_running (before ++ ds))
counted_from before [] are up = ap (λ (v : List Deed). 0 + open_commands (is_running v)) (sym (append-nil before))
counted_from before (d ∷ ds) are up =
    let one : length (filter_map call_in (d ∷ [])) + open_commands (is_running before)
    ≡ length (filter_map reply_in (d ∷ [])) + open_commands (runs_at (is_running before) d) =
    one_deed before d are.0 up.0 in
    let next : open_commands (runs_at (is_running before) d) ≡ open_commands (is_running (before ++ d ∷ [])) =
    ap open_commands (sym (running_more before (d ∷ []))) in
    let rest : length (filter_map call_in ds) + open_commands (is_running (before ++ d ∷ []))
    ≡ length (filter_map reply_in ds) + open_commands (is_running ((before ++ d ∷ []) ++ ds)) =
    counted_from (before ++ d ∷ []) ds are.1 up.1 in
    let whole : open_commands (is_running ((before ++ d ∷ []) ++ ds)) ≡ open_commands (is_running (before ++ d ∷ ds)) =
    ap (λ (v : List Deed). open_commands (is_running v)) (append_assoc before (d ∷ []) ds) in
    let calls : length (filter_map call_in (d ∷ ds))
    ≡ length (filter_map call_in (d ∷ [])) + length (filter_map call_in ds) =
    ap length (filter_map-append call_in (d ∷ []) ds)
    ∙ length-append (filter_map call_in (d ∷ [])) (filter_map call_in ds) in
    let told : length (filter_map reply_in (d ∷ ds))
    ≡ length (filter_map reply_in (d ∷ [])) + length (filter_map reply_in ds) =
    ap length (filter_map-append reply_in (d ∷ []) ds)
    ∙ length-append (filter_map reply_in (d ∷ [])) (filter_map reply_in ds) in
    omega arith

pub all_counted : (ds : List Deed) → AreInOrder [] ds → AreSteady ds
    → length (filter_map call_in ds) ≡ length (filter_map reply_in ds) + open_commands (is_running ds)
all_counted ds are up =
    let count : length (filter_map call_in ds) + 0 ≡ length (filter_map reply_in ds) + open_commands (is_running ds) =
    counted_from [] ds are up in
    omega arith
