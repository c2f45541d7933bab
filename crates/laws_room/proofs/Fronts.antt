-- A front end's turn costs no more than its input pays and what the running `do` still has: a request of each kind to
-- each site that it may yet ask.
use Rattle.std.proofs.Common.{◌≡◌, ℕ, suc, ◌+◌, ◌-◌, ◌≤◌, cond, List, [], ◌∷◌, ◌++◌, map, length, Option, Some, None}
use Rattle.std.proofs.Common.{is_some, option_map, refl, ap, ◌∙◌, subst, arith, length-append}
use Rattle.std.specs.Prelude.{slice_get, drop, option_and_then}
use Rattle.std.proofs.lemmas.List.Sums.{sum_by_push}
use Rattle.qc_decl.specs.Vocabulary.{IsAccepted, append_need_of}
use Rattle.qc_decl.specs.declared.declaration.Declaration.{Declaration}
use Rattle.qc_entry.specs.declared.line.Op.{Op}
use Rattle.qc_msg.specs.declared.begun.Begun.{Begun}
use Rattle.qc_msg.specs.declared.call.Call.{Call}
use Rattle.qc_msg.specs.declared.message.Answer.{Answer}
use Rattle.qc_msg.specs.declared.message.Message.TheVariants as messages
use Rattle.qc_msg.specs.declared.message.Outcome.{Outcome}
use Rattle.qc_msg.specs.declared.payload.Grant.{Grant}
use Rattle.qc_msg.specs.declared.turn.Posting.{Posting}
use Rattle.qc_msg.specs.Vocabulary.{answered as answered_ops, decisions, first_read, granted_in, life_of, site_called}
use Rattle.qc_msg.specs.Vocabulary.{without_call}
use Rattle.qc_plan.specs.Vocabulary.{RoundState, asking_all, note, verdict, wanted}
use Rattle.qc_plan.specs.declared.standing.Verdict.{Verdict}
use Rattle.qc_plan.specs.declared.standing.Verdict.TheVariants as verdicts
use Rattle.qc_view.specs.declared.view.View.{View}
use Rattle.qc_view.specs.Vocabulary.{with_log, with_own}
use Rattle.qc_front.specs.declared.doing.Doing.{Doing}
use Rattle.qc_front.specs.declared.doing.Doing.TheVariants.{Idle, Reading, Appending}
use Rattle.qc_front.specs.declared.front.Front.{Front}
use Rattle.qc_front.specs.declared.transaction.Transaction.{Transaction}
use Rattle.qc_front.specs.Vocabulary.{FrontMove, answer_of, answered, append_by, append_want, appended_with}
use Rattle.qc_front.specs.Vocabulary.{appending_takes, appends, learns, lived, next_own, op_of, own_appended, read_by}
use Rattle.qc_front.specs.Vocabulary.{read_want, read_with, reading_takes, reads, request_of, resp_of, round_for}
use Rattle.qc_front.specs.Vocabulary.{standing_of, takes, takes_in, view_log, with_event, with_granted}
use Rattle.qc_front.proofs.Awaited.{wanted_is}
use Rattle.qc_core.proofs.FewSites.{AreSites, few_sites}
use Rattle.qc_core.proofs.RoundSites.{start_fits}
use Rattle.laws_turns.proofs.ReadingCases.{mapped}
use Rattle.laws_room.proofs.Totals.{times, times-le, times-more}
use Rattle.laws_room.proofs.Prices.{Prices, AreFair, full, sends_cost, turn_cost}
use Rattle.qc_front.proofs.CommandsKeep.{view_keeps}

-- what a transaction's operations may cost once they are recorded
abbrev pub operations_in : Prices → Option Transaction → ℕ
operations_in p None = 0
operations_in p (Some t) = times p.operation (answered_ops t.begun.ops)

-- what a running `do` may still cost: its reply and its operation, and requests to sites
abbrev pub doing_left : Prices → ℕ → Doing → ℕ
doing_left p sites Idle = 0
doing_left p sites (Reading object inv calls round) =
    (p.step + p.operation) + (times p.read (length round.rest) + times p.append sites)
doing_left p sites (Appending object inv event calls round) =
    (p.step + p.operation) + times p.append (length round.rest)

abbrev pub front_left : Prices → ℕ → Front → ℕ
front_left p sites front = doing_left p sites front.doing + operations_in p front.transaction

-- several messages, each at most at a price

pub map_cost : {X : Type 0} (p : Prices) (price : ℕ) (f : X → Posting) (xs : List X)
    → ((x : X) → full p (f x).message ≤ price) → sends_cost p (map f xs) ≤ times price (length xs)
map_cost p price f [] low = omega arith
map_cost p price f (x ∷ xs) low =
    let here : full p (f x).message ≤ price = low x in
    let rest : sends_cost p (map f xs) ≤ times price (length xs) = map_cost p price f xs low in
    omega arith

pub verdicts_cost : (p : Prices) (fair : AreFair p) (n : ℕ) (b : Begun) (v : Outcome) → AreSites n b.asked
    → sends_cost p (decisions b v) ≤ times p.decision n
verdicts_cost p fair n b v are =
    let each : sends_cost p (decisions b v) ≤ times p.decision (length b.asked) =
    map_cost p p.decision (λ site. record { to = site; message = messages.Decision b.tx v }) b.asked
    (λ site. fair.decides b.tx v) in
    let few : times p.decision (length b.asked) ≤ times p.decision n =
    times-le p.decision (length b.asked) n (few_sites n b.asked are) in
    omega arith

-- the sites that are asked leave the rest

length-drop_one : (xs : List ℕ) (n : ℕ) → suc n ≤ length xs → length (drop 1 xs) ≡ length xs - 1
length-drop_one [] n low = absurd (omega arith)
length-drop_one (x ∷ xs) n low = omega arith

rest_left : (r : RoundState) (sites : List ℕ) → length sites ≤ length r.rest
    → length (asking_all r sites).rest + length sites ≡ length r.rest
rest_left r [] low = omega arith
rest_left r (site ∷ sites) low =
    let dropped : length (drop 1 r.rest) ≡ length r.rest - 1 = length-drop_one r.rest (length sites) low in
    let more : length
    (asking_all (record r { asked = r.asked ++ record { site = site; standing = None } ∷ []; rest = drop 1 r.rest })
    sites).rest + length sites ≡ length (drop 1 r.rest) =
    rest_left (record r { asked = r.asked ++ record { site = site; standing = None } ∷ []; rest = drop 1 r.rest }) sites
    (omega arith) in
    omega arith

wanted_left : (r : RoundState) → length (asking_all r (wanted r)).rest + length (wanted r) ≡ length r.rest
wanted_left r = rest_left r (wanted r) (
    let whole : length (wanted r ++ (wanted_is r).more) ≡ length r.rest = ap length (wanted_is r).is in
    let both : length (wanted r ++ (wanted_is r).more) ≡ length (wanted r) + length (wanted_is r).more =
    length-append (wanted r) (wanted_is r).more in
    omega arith)

-- operations are kept, or one joins them

one_op : (ops : List Op) (op : Op) → answered_ops (ops ++ op ∷ []) ≡ answered_ops ops + cond (is_some op.resp) 1 0
one_op ops op = sum_by_push (λ (o : Op). cond (is_some o.resp) 1 0) ops op

read_ops : (t : Transaction) (site object : ℕ) (answer : Option Answer)
    → (read_with t site object answer).begun.ops ≡ t.begun.ops
read_ops t site object answer =
    mapped (λ (u : Transaction). u.begun.ops ≡ t.begun.ops)
    (λ (g : Grant). with_granted (lived t site g.life) object g.log) t (option_and_then granted_in answer)
    (λ g. ap (λ (b : Begun). b.ops) (view_keeps (lived t site g.life) object
    (option_map (λ (v : View). with_log v g.log) (slice_get t.views object))))
    refl

appended_ops : (t : Transaction) (site : ℕ) (answer : Option Answer)
    → (appended_with t site answer).begun.ops ≡ t.begun.ops
appended_ops t site answer =
    mapped (λ (u : Transaction). u.begun.ops ≡ t.begun.ops) (λ (g : Grant). lived t site g.life) t
    (option_and_then granted_in answer) (λ g. refl) refl

-- moves

module _ (decl : Declaration) (accepted : IsAccepted decl) (p : Prices) (fair : AreFair p) where
  -- a move costs at most so much, with what it leaves
  abbrev pub Costs : ℕ → FrontMove → Type 0
  Costs most m = turn_cost p m.turn + front_left p decl.sites m.front ≤ most

  goes_costs : (front : Front) (t : Transaction) (object inv event : ℕ) (calls : List Call) (r : RoundState)
      → Costs ((p.step + p.operation) + times p.append (length r.rest) + operations_in p (Some t))
      (append_by decl front t object inv event calls r verdicts.Waiting)
  goes_costs front t object inv event calls r =
      let asked : sends_cost p (map (request_of t.begun (append_want decl t object event)) (wanted r))
      ≤ times p.append (length (wanted r)) =
      map_cost p p.append (request_of t.begun (append_want decl t object event)) (wanted r)
      (λ site. fair.appends t.begun.tx t.begun.epoch (life_of t.begun.lives site) object (view_log t object)
      (own_appended decl t object event)) in
      let left : length (asking_all r (wanted r)).rest + length (wanted r) ≡ length r.rest = wanted_left r in
      let split : times p.append (length (asking_all r (wanted r)).rest + length (wanted r))
      ≡ times p.append (length (asking_all r (wanted r)).rest) + times p.append (length (wanted r)) =
      times-more p.append (length (asking_all r (wanted r)).rest) (length (wanted r)) in
      let same : times p.append (length (asking_all r (wanted r)).rest + length (wanted r))
      ≡ times p.append (length r.rest) =
      ap (times p.append) left in
      omega arith

  append_costs : (front : Front) (t : Transaction) (object inv event : ℕ) (calls : List Call) (r : RoundState)
      (v : Verdict)
      → Costs ((p.step + p.operation) + times p.append (length r.rest) + operations_in p (Some t))
      (append_by decl front t object inv event calls r v)
  append_costs front t object inv event calls r verdicts.Waiting = goes_costs front t object inv event calls r
  append_costs front t object inv event calls r verdicts.Met =
      let kept : (with_event t object inv event (resp_of decl object event)).begun.ops
      ≡ t.begun.ops ++ op_of object inv (Some (resp_of decl object event)) ∷ [] =
      ap (λ (b : Begun). b.ops ++ op_of object inv (Some (resp_of decl object event)) ∷ [])
      (view_keeps (record t { own = t.own ++ next_own t object event ∷ [] }) object
      (option_map (λ (v : View). with_own v event) (slice_get t.views object))) in
      let more : answered_ops (with_event t object inv event (resp_of decl object event)).begun.ops
      ≡ answered_ops t.begun.ops + 1 =
      ap answered_ops kept ∙ one_op t.begun.ops (op_of object inv (Some (resp_of decl object event))) in
      let grown : times p.operation (answered_ops (with_event t object inv event (resp_of decl object event)).begun.ops)
      ≡ times p.operation (answered_ops t.begun.ops + 1) =
      ap (times p.operation) more in
      let split : times p.operation (answered_ops t.begun.ops + 1) ≡ times p.operation (answered_ops t.begun.ops)
      + times p.operation 1 =
      times-more p.operation (answered_ops t.begun.ops) 1 in
      omega arith
  append_costs front t object inv event calls r (verdicts.Closed epoch site) = omega arith
  append_costs front t object inv event calls r (verdicts.Clash tx site) = omega arith
  append_costs front t object inv event calls r (verdicts.Short got need) = omega arith

  answered_costs : (front : Front) (t : Transaction) (object inv : ℕ) (event : Option ℕ)
      → Costs ((p.step + p.operation) + times p.append decl.sites + operations_in p (Some t))
      (answered decl front t object inv event)
  answered_costs front t object inv None =
      let more : answered_ops (t.begun.ops ++ op_of object inv None ∷ []) ≡ answered_ops t.begun.ops + 0 =
      one_op t.begun.ops (op_of object inv None) in
      let grown : times p.operation (answered_ops (t.begun.ops ++ op_of object inv None ∷ []))
      ≡ times p.operation (answered_ops t.begun.ops) =
      ap (times p.operation) (more ∙ omega arith) in
      omega arith
  answered_costs front t object inv (Some event) =
      let costs : Costs
      ((p.step + p.operation)
      + times p.append (length (round_for decl front t (append_need_of decl t.begun.epoch object event)).rest)
      + operations_in p (Some t))
      (append_by decl front t object inv event []
      (round_for decl front t (append_need_of decl t.begun.epoch object event))
      (verdict (round_for decl front t (append_need_of decl t.begun.epoch object event)))) =
      append_costs front t object inv event [] (round_for decl front t (append_need_of decl t.begun.epoch object event))
      (verdict (round_for decl front t (append_need_of decl t.begun.epoch object event))) in
      let few : times p.append (length (round_for decl front t (append_need_of decl t.begun.epoch object event)).rest)
      ≤ times p.append decl.sites =
      times-le p.append (length (round_for decl front t (append_need_of decl t.begun.epoch object event)).rest)
      decl.sites
      (start_fits decl front.client t.begun.epoch (append_need_of decl t.begun.epoch object event) accepted).few in
      within ((p.step + p.operation)
      + times p.append (length (round_for decl front t (append_need_of decl t.begun.epoch object event)).rest)
      + operations_in p (Some t)) ((p.step + p.operation) + times p.append decl.sites + operations_in p (Some t))
      (appends_of front t object inv event) costs (omega arith)
    where
      appends_of : Front → Transaction → ℕ → ℕ → ℕ → FrontMove
      appends_of front t object inv event =
          append_by decl front t object inv event []
          (round_for decl front t (append_need_of decl t.begun.epoch object event))
          (verdict (round_for decl front t (append_need_of decl t.begun.epoch object event)))

      within : (low high : ℕ) (m : FrontMove) → Costs low m → low ≤ high → Costs high m
      within low high m costs less = omega arith

  pub read_costs : (front : Front) (t : Transaction) (object inv : ℕ) (calls : List Call) (r : RoundState) (v : Verdict)
      → Costs
      ((p.step + p.operation) + (times p.read (length r.rest) + times p.append decl.sites)
      + operations_in p (Some t)) (read_by decl front t object inv calls r v)
  read_costs front t object inv calls r verdicts.Waiting =
      let asked : sends_cost p (map (request_of t.begun (read_want object inv)) (wanted r))
      ≤ times p.read (length (wanted r)) =
      map_cost p p.read (request_of t.begun (read_want object inv)) (wanted r)
      (λ site. fair.reads t.begun.tx t.begun.epoch (life_of t.begun.lives site) (first_read object inv)) in
      let left : length (asking_all r (wanted r)).rest + length (wanted r) ≡ length r.rest = wanted_left r in
      let split : times p.read (length (asking_all r (wanted r)).rest + length (wanted r))
      ≡ times p.read (length (asking_all r (wanted r)).rest) + times p.read (length (wanted r)) =
      times-more p.read (length (asking_all r (wanted r)).rest) (length (wanted r)) in
      let same : times p.read (length (asking_all r (wanted r)).rest + length (wanted r))
      ≡ times p.read (length r.rest) =
      ap (times p.read) left in
      omega arith
  read_costs front t object inv calls r verdicts.Met =
      let costs : Costs ((p.step + p.operation) + times p.append decl.sites + operations_in p (Some t))
      (answered decl front t object inv (answer_of decl t object inv)) =
      answered_costs front t object inv (answer_of decl t object inv) in
      omega arith
  read_costs front t object inv calls r (verdicts.Closed epoch site) = omega arith
  read_costs front t object inv calls r (verdicts.Clash tx site) = omega arith
  read_costs front t object inv calls r (verdicts.Short got need) = omega arith

  -- what is taken for a request costs what is left

  takes_in_costs : (front : Front) (doing : Doing) (o : Option Transaction) (number : ℕ) (answer : Option Answer)
      → front_left p decl.sites front ≤ doing_left p decl.sites doing + operations_in p o
      → Costs (doing_left p decl.sites doing + operations_in p o) (takes_in decl front doing o number answer)
  takes_in_costs front doing None number answer left = omega arith
  takes_in_costs front Idle (Some t) number answer left = omega arith
  takes_in_costs front (Reading object inv calls round) (Some t) number answer left = by (site_called calls number)
    where
      by : (o : Option ℕ) → Costs (doing_left p decl.sites (Reading object inv calls round) + operations_in p (Some t))
          (reading_takes decl front t object inv calls round number answer o)
      by None = omega arith
      by (Some site) =
          subst (λ (ops : List Op). Costs
          ((p.step + p.operation) + (times p.read (length round.rest) + times p.append decl.sites)
          + times p.operation (answered_ops ops))
          (reads decl (learns front answer) (read_with t site object answer) object inv (without_call calls number)
          (note round site (standing_of answer)))) (read_ops t site object answer)
          (read_costs (learns front answer) (read_with t site object answer) object inv (without_call calls number)
          (note round site (standing_of answer)) (verdict (note round site (standing_of answer))))
  takes_in_costs front (Appending object inv event calls round) (Some t) number answer left =
      by (site_called calls number)
    where
      by : (o : Option ℕ)
          → Costs (doing_left p decl.sites (Appending object inv event calls round) + operations_in p (Some t))
          (appending_takes decl front t object inv event calls round number answer o)
      by None = omega arith
      by (Some site) =
          subst (λ (ops : List Op). Costs ((p.step + p.operation) + times p.append (length round.rest)
          + times p.operation (answered_ops ops))
          (appends decl (learns front answer) (appended_with t site answer) object inv event (without_call calls number)
          (note round site (standing_of answer)))) (appended_ops t site answer)
          (append_costs (learns front answer) (appended_with t site answer) object inv event (without_call calls number)
          (note round site (standing_of answer)) (verdict (note round site (standing_of answer))))

  pub takes_costs : (front : Front) (number : ℕ) (answer : Option Answer)
      → Costs (front_left p decl.sites front) (takes decl front number answer)
  takes_costs front number answer = takes_in_costs front front.doing front.transaction number answer (omega arith)
