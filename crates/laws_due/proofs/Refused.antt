-- What is answered was called in order, each command told its reply; and exchanges that miss something are refused.
use Rattle.std.proofs.Common.{◌≡◌, ◌+◌, Bool, true, false, List, [], ◌∷◌, ◌++◌, Option, Some, None, is_some, length}
use Rattle.std.proofs.Common.{refl, sym, ap, ◌∙◌, arith, length-append}
use Rattle.std.specs.Prelude.{fold, option_to_list}
use Rattle.std.specs.List.{filter_map}
use Rattle.std.proofs.lemmas.List.Sums.{fold-append}
use Rattle.qc_core.specs.Vocabulary.{is_running, runs_at}
use Rattle.laws_turns.specs.Vocabulary.{AreAnswered, Exchange, call_in, exchanges, exchanges_from, reply_in}
use Rattle.qc_msg.specs.declared.record.Record.{Record}
use Rattle.qc_msg.specs.declared.reply.Reply.{Reply}
use Rattle.qc_msg.specs.declared.step.Command.{Command}
use Rattle.qc_msg.specs.declared.step.Fall.{Fall}
use Rattle.qc_msg.specs.declared.step.Input.TheVariants as inputs
use Rattle.qc_msg.specs.Vocabulary.{Deed, Falls, Rises, Sends, Takes, Tells, Writes}
use Rattle.laws_due.specs.Vocabulary.{AreInOrder}
use Rattle.laws_due.proofs.Ordered.{all_counted, open_commands, order_second}
use Rattle.laws_due.proofs.WholeLaw.{answered_from}

-- what answered exchanges come from

pub record Comes (running : Option Command) (asked : List Command) (ds : List Deed) : Type 0 where
  pub calls : option_to_list running ++ filter_map call_in ds ≡ asked
  pub order : AreInOrder (is_some running) ds
  pub idle : fold runs_at (is_some running) ds ≡ false

-- one that is missing its reply is refused
no_reply : {A : Type 0} (c : Command) (asked : List Command) (xs : List _)
    → AreAnswered asked (record { command = Some c; reply = None } ∷ xs) → A
no_reply c [] xs never = absurd never
no_reply c (x ∷ asked) xs is = absurd (let gone : None ≡ Some is.0.0 = ap (λ (e : Exchange). e.reply) is.0.1 in
    let never : ⊥ = cc in never)

no_command : {A : Type 0} (reply : Reply) (asked : List Command) (xs : List _)
    → AreAnswered asked (record { command = None; reply = Some reply } ∷ xs) → A
no_command reply [] xs never = absurd never
no_command reply (x ∷ asked) xs is = absurd
    (let gone : None ≡ Some x = ap (λ (e : Exchange). e.command) is.0.1 in let never : ⊥ = cc in never)

pub comes : (running : Option Command) (asked : List Command) (ds : List Deed)
    → AreAnswered asked (exchanges_from running ds) → Comes running asked ds
comes None [] [] is = record { calls = refl; order = tt; idle = refl }
comes None (c ∷ asked) [] is = absurd is
comes (Some c) asked [] is = no_reply c asked [] is
comes None asked (Takes (inputs.Called command) ∷ ds) is = let r : Comes (Some command) asked ds =
    comes (Some command) asked ds is in record { calls = r.calls; order = (refl, r.order); idle = r.idle }
comes (Some c) asked (Takes (inputs.Called command) ∷ ds) is = no_reply c asked (exchanges_from (Some command) ds) is
comes running asked (Takes (inputs.Got envelope) ∷ ds) is = let r : Comes running asked ds =
    comes running asked ds is in record { calls = r.calls; order = (tt, r.order); idle = r.idle }
comes running asked (Takes (inputs.Lost number) ∷ ds) is = let r : Comes running asked ds = comes running asked ds is in
    record { calls = r.calls; order = (tt, r.order); idle = r.idle }
comes running asked (Writes written ∷ ds) is = let r : Comes running asked ds = comes running asked ds is in
    record { calls = r.calls; order = (tt, r.order); idle = r.idle }
comes running asked (Sends number to message ∷ ds) is = let r : Comes running asked ds = comes running asked ds is in
    record { calls = r.calls; order = (tt, r.order); idle = r.idle }
comes None asked (Tells reply ∷ ds) is = no_command reply asked (exchanges_from None ds) is
comes (Some c) [] (Tells reply ∷ ds) is = absurd is
comes (Some c) (x ∷ asked) (Tells reply ∷ ds) is =
    let r : Comes None asked ds = comes None asked ds is.1 in
    let same : Some c ≡ Some x = ap (λ (e : Exchange). e.command) is.0.1 in
    let it : c ≡ x = cc in
    record { calls = (λ i. it i ∷ r.calls i); order = (refl, r.order); idle = r.idle }
comes None asked (Falls cause pending ∷ ds) is = let r : Comes None asked ds = comes None asked ds is in
    record { calls = r.calls; order = (refl, r.order); idle = r.idle }
comes (Some c) asked (Falls cause pending ∷ ds) is = no_reply c asked (exchanges_from None ds) is
comes None asked (Rises records ∷ ds) is = let r : Comes None asked ds = comes None asked ds is in
    record { calls = r.calls; order = (refl, r.order); idle = r.idle }
comes (Some c) asked (Rises records ∷ ds) is = no_reply c asked (exchanges_from None ds) is

pub answered_commands_were_called_in_order : (asked : List Command) (ds : List Deed) → AreAnswered asked (exchanges ds)
    → (filter_map call_in ds ≡ asked) × (AreInOrder false ds × (is_running ds ≡ false))
answered_commands_were_called_in_order asked ds is =
    let r : Comes None asked ds = comes None asked ds is in
    (r.calls, (r.order, r.idle))

pub commands_in_order_are_answered : (ds : List Deed) → AreInOrder false ds → is_running ds ≡ false
    → AreAnswered (filter_map call_in ds) (exchanges ds)
commands_in_order_are_answered ds order idle = answered_from None ds order idle

pub answered_commands_have_a_reply_each : (asked : List Command) (ds : List Deed) → AreAnswered asked (exchanges ds)
    → length (filter_map reply_in ds) ≡ length asked
answered_commands_have_a_reply_each asked ds is =
    let r : (filter_map call_in ds ≡ asked) × (AreInOrder false ds × (is_running ds ≡ false)) =
    answered_commands_were_called_in_order asked ds is in
    let count : length (filter_map call_in ds) ≡ length (filter_map reply_in ds) + 0 = all_counted ds r.1.0
    ∙ ap (λ (t : Bool). length (filter_map reply_in ds) + open_commands t) r.1.1 in
    let same : length (filter_map call_in ds) ≡ length asked = ap length r.0 in
    omega arith

-- wrong ones

pub missing_replies_are_refused : (asked : List Command) (ds : List Deed) (command : Command)
    → AreAnswered asked (exchanges (ds ++ Takes (inputs.Called command) ∷ [])) → ⊥
missing_replies_are_refused asked ds command is =
    let idle : is_running (ds ++ Takes (inputs.Called command) ∷ []) ≡ false =
    (answered_commands_were_called_in_order asked (ds ++ Takes (inputs.Called command) ∷ []) is).1.1 in
    let runs : is_running (ds ++ Takes (inputs.Called command) ∷ []) ≡ true =
    fold-append runs_at false ds (Takes (inputs.Called command) ∷ []) in
    let no : true ≡ false = sym runs ∙ idle in
    let never : ⊥ = cc in
    never

pub needless_replies_are_refused : (asked : List Command) (ds rest : List Deed) (reply : Reply) → is_running ds ≡ false
    → AreAnswered asked (exchanges (ds ++ Tells reply ∷ rest)) → ⊥
needless_replies_are_refused asked ds rest reply idle is =
    let order : AreInOrder (is_running ds) (Tells reply ∷ rest) =
    order_second false ds (Tells reply ∷ rest)
    (answered_commands_were_called_in_order asked (ds ++ Tells reply ∷ rest) is).1.0 in
    let no : true ≡ false = sym order.0 ∙ idle in
    let never : ⊥ = cc in
    never

pub falls_before_a_reply_are_refused : (asked : List Command) (ds rest : List Deed) (cause : Fall)
    (pending : Option Record)
    → is_running ds ≡ true → AreAnswered asked (exchanges (ds ++ Falls cause pending ∷ rest)) → ⊥
falls_before_a_reply_are_refused asked ds rest cause pending runs is =
    let order : AreInOrder (is_running ds) (Falls cause pending ∷ rest) =
    order_second false ds (Falls cause pending ∷ rest)
    (answered_commands_were_called_in_order asked (ds ++ Falls cause pending ∷ rest) is).1.0 in
    let no : true ≡ false = sym runs ∙ order.0 in
    let never : ⊥ = cc in
    never

pub never_called : (asked : List Command) (command : Command) (ds : List Deed) → filter_map call_in ds ≡ asked
    → AreAnswered (asked ++ command ∷ []) (exchanges ds) → ⊥
never_called asked command ds calls is =
    let same : asked ≡ asked ++ command ∷ [] =
    sym calls ∙ (answered_commands_were_called_in_order (asked ++ command ∷ []) ds is).0 in
    let long : length (asked ++ command ∷ []) ≡ length asked + 1 = length-append asked (command ∷ []) in
    let short : length asked ≡ length (asked ++ command ∷ []) = ap length same in
    absurd (omega arith)

pub called_twice : (asked : List Command) (command : Command) (ds : List Deed)
    → filter_map call_in ds ≡ asked ++ command ∷ [] → AreAnswered asked (exchanges ds) → ⊥
called_twice asked command ds calls is =
    let same : asked ++ command ∷ [] ≡ asked = sym calls ∙ (answered_commands_were_called_in_order asked ds is).0 in
    let long : length (asked ++ command ∷ []) ≡ length asked + 1 = length-append asked (command ∷ []) in
    let short : length (asked ++ command ∷ []) ≡ length asked = ap length same in
    absurd (omega arith)
