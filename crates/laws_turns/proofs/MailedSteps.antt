-- Each event adds to what was sent: each answer among messages goes to who asked for it, from who was asked.
use Rattle.std.proofs.Common.{[], ◌≡◌, ℕ, ◌+◌, true, List, ◌∷◌, ◌++◌, length, Option, Some, None, option_to_list}
use Rattle.std.proofs.Common.{slice_get, refl, sym, ap, ◌∙◌, subst, arith, length-append}
use Rattle.std.specs.List.{AllByRecursion as Every}
use Rattle.std.proofs.lemmas.List.{append-nil}
use Rattle.qc_decl.specs.declared.declaration.Declaration.{Declaration}
use Rattle.qc_mailbox.specs.Vocabulary.{AreNumbered, IsOwnRequest}
use Rattle.qc_list.proofs.Members.{every-append, every-at, every-weaker}
use Rattle.qc_msg.specs.declared.message.Envelope.{Envelope}
use Rattle.qc_msg.specs.declared.message.Message.{Message}
use Rattle.qc_msg.specs.declared.record.Record.{Record}
use Rattle.qc_msg.specs.declared.reply.Reply.{Reply}
use Rattle.qc_msg.specs.declared.step.Input.{Input}
use Rattle.qc_msg.specs.declared.step.Input.TheVariants as inputs
use Rattle.qc_msg.specs.declared.step.Step.{Step}
use Rattle.qc_msg.specs.declared.turn.Appended.{Appended}
use Rattle.qc_msg.specs.declared.turn.Appended.TheVariants.{Done, Failed, Stopped}
use Rattle.qc_msg.specs.declared.turn.Posting.{Posting}
use Rattle.qc_msg.specs.declared.turn.Turn.{Turn}
use Rattle.qc_msg.specs.Vocabulary.{Answered, Entry, WasSentTo, answer_in, by, envelope_of, envelopes, fell, mail}
use Rattle.qc_msg.specs.Vocabulary.{marked, posted_as, sends_as, sents, step_of, told, wrote}
use Rattle.qc_msg.proofs.GrownMail.{mail-append, mail-taken}
use Rattle.qc_msg.proofs.Growth.{mail-posted_as}
use Rattle.qc_promise.specs.Vocabulary.{IsAnswerOf, IsMailStep, IsMailed, IsReceived, IsRequestOf, IsRequestTo}
use Rattle.qc_promise.specs.Vocabulary.{asks_answer}
use Rattle.qc_script.specs.Vocabulary.{is_request}
use Rattle.laws_turns.proofs.Commanded.{CallsAt, IsCalled, IsOwnCall, input_called, post_called}
use Rattle.qc_mailbox.proofs.Among.{mail_cons, place_of}
use Rattle.qc_list.proofs.Places.{slice_get-more}

-- more messages

found_more : (ms more : List Envelope) (n : ℕ) (P : Option Envelope → Type 0) → (P None → ⊥) → P (slice_get ms n)
    → P (slice_get (ms ++ more) n)
found_more ms more n P never is = by (slice_get ms n) refl is
  where
    by : (o : Option Envelope) → slice_get ms n ≡ o → P o → P (slice_get (ms ++ more) n)
    by None none holds = absurd (never holds)
    by (Some e) found holds = subst P (sym (slice_get-more ms more n e found)) holds

answer_more : (ms more : List Envelope) (from to : ℕ) (o : Option Answered) → IsAnswerOf ms from to o
    → IsAnswerOf (ms ++ more) from to o
answer_more ms more from to None is = tt
answer_more ms more from to (Some a) is = (
  found_more ms more a.to (IsRequestOf to) (λ never. never) is.0,
  found_more ms more a.to (IsRequestTo from) (λ never. never) is.1,
)

-- each answer among messages goes to who asked for it, from who was asked

abbrev pub IsAskedFor : List Envelope → Envelope → Type 0
IsAskedFor ms e = IsAnswerOf ms e.from e.to (answer_in e.message)

abbrev pub AreAskedFor : List Envelope → Type 0
AreAskedFor ms = Every (IsAskedFor ms) ms

pub record Delivered (decl : Declaration) (h : List Entry) : Type 0 where
  pub mailed : IsMailed [] h
  pub asked : AreAskedFor (mail h)
  pub called : Every (IsCalled decl) h

-- along more entries

mailed_more : (ms : List Envelope) (h k : List Entry) → IsMailed ms h → IsMailed (ms ++ mail h) k → IsMailed ms (h ++ k)
mailed_more ms [] k first second = subst (λ (v : List Envelope). IsMailed v k) (append-nil ms) second
mailed_more ms (e ∷ h) k first second = (
  first.0,
  mailed_more (ms ++ option_to_list (envelope_of e)) h k first.1
      (subst (λ (v : List Envelope). IsMailed v k) (sym (mail_cons ms (envelope_of e) (mail h))) second),
)

-- one step that sends nothing

pub step_delivered : (decl : Declaration) (h : List Entry) (a : ℕ) (step : Step)
    → mail (h ++ marked a step ∷ []) ≡ mail h → IsMailStep (mail h) a step → CallsAt decl a step → Delivered decl h
    → Delivered decl (h ++ marked a step ∷ [])
step_delivered decl h a step same is calls d = record {
  mailed = mailed_more [] h (marked a step ∷ []) d.mailed (is, tt);
  asked = subst AreAskedFor (sym same) d.asked;
  called = every-append (IsCalled decl) h (marked a step ∷ []) d.called (calls, tt);
}

-- an input

abbrev pub IsOwnLoss : List Envelope → ℕ → Input → Type 0
IsOwnLoss ms a (inputs.Called command) = Unit {0}
IsOwnLoss ms a (inputs.Got e) = Unit {0}
IsOwnLoss ms a (inputs.Lost n) = IsOwnRequest ms a n

asks_is : (m : Message) → is_request m ≡ true → asks_answer m ≡ true
asks_is m is = is

own_request : (ms : List Envelope) (a n : ℕ) → AreNumbered ms → IsOwnRequest ms a n → IsRequestOf a (slice_get ms n)
own_request ms a n numbered own =
    let at : (k : ℕ) × (slice_get ms k ≡ Some own.envelope) = place_of own.envelope ms own.member in
    let here : slice_get ms n ≡ Some own.envelope =
    ap (λ (k : ℕ). slice_get ms k) (sym own.number_is ∙ numbered at.0 own.envelope at.1) ∙ at.1 in
    subst (IsRequestOf a) (sym here) (own.from_is, asks_is own.envelope.message own.asks)

input_mailed : (h : List Entry) (a : ℕ) (g : Input) → AreNumbered (mail h) → AreAskedFor (mail h)
    → WasSentTo a (mail h) g → IsOwnLoss (mail h) a g → IsMailStep (mail h) a (step_of g)
input_mailed h a (inputs.Called command) numbered asked sent own = tt
input_mailed h a (inputs.Got e) numbered asked sent own =
    subst (IsReceived (mail h) a) (sym sent.0) (
      sent.1,
      subst (λ (to : ℕ). IsAnswerOf (mail h) e.from to (answer_in e.message)) sent.1
          (every-at (IsAskedFor (mail h)) (mail h) e.number e asked sent.0),
    )
input_mailed h a (inputs.Lost n) numbered asked sent own = own_request (mail h) a n numbered own

pub takes_delivered : (decl : Declaration) (h : List Entry) (a : ℕ) (g : Input) → AreNumbered (mail h)
    → WasSentTo a (mail h) g → IsOwnLoss (mail h) a g → IsOwnCall decl a g → Delivered decl h
    → Delivered decl (h ++ marked a (step_of g) ∷ [])
takes_delivered decl h a g numbered sent own call d =
    step_delivered decl h a (step_of g) (mail-taken h a g) (input_mailed h a g numbered d.asked sent own)
    (input_called decl a g call) d

-- a post

sents_mailed : (a : ℕ) (ms : List Envelope) (n : ℕ) (ps : List Posting) (rest : List Step) → n ≡ length ms
    → ((xs : List Envelope) → IsMailed xs (by a rest)) → IsMailed ms (by a (sents n ps ++ rest))
sents_mailed a ms n [] rest is after = after ms
sents_mailed a ms n (p ∷ ps) rest is after = (
  is,
  sents_mailed a (ms ++ record { number = n; from = a; to = p.to; message = p.message } ∷ []) (n + 1) ps rest
      (let long : length (ms ++ record { number = n; from = a; to = p.to; message = p.message } ∷ []) ≡ length ms + 1 =
      length-append ms (record { number = n; from = a; to = p.to; message = p.message } ∷ []) in
      omega arith) after,
)

told_mailed : (a : ℕ) (reply : Option Reply) (rest : List Step) → ((xs : List Envelope) → IsMailed xs (by a rest))
    → (xs : List Envelope) → IsMailed xs (by a (told reply ++ rest))
told_mailed a None rest after xs = after xs
told_mailed a (Some reply) rest after xs = (tt, after (xs ++ []))

none_mailed : (a : ℕ) (xs : List Envelope) → IsMailed xs (by a [])
none_mailed a xs = tt

all_told : (a : ℕ) (reply : Option Reply) (xs : List Envelope) → IsMailed xs (by a (told reply))
all_told a None xs = tt
all_told a (Some reply) xs = (tt, tt)

post_mailed : (a : ℕ) (ms : List Envelope) (end : Appended) (t : Turn)
    → IsMailed ms (by a (posted_as end (length ms) t))
post_mailed a ms Done t = by_write t.write
  where
    by_write : (w : Option Record) → IsMailed ms (by a (wrote w ++ (sents (length ms) t.sends ++ told t.told)))
    by_write None = sents_mailed a ms (length ms) t.sends (told t.told) refl (all_told a t.told)
    by_write (Some written) = (
      tt,
      sents_mailed a (ms ++ []) (length ms) t.sends (told t.told) (ap length (sym (append-nil ms)))
          (all_told a t.told),
    )
post_mailed a ms Failed t =
    sents_mailed a ms (length ms) t.failed_sends (told t.failed_told ++ fell _ t.write) refl
    (told_mailed a t.failed_told (fell _ t.write) (λ xs. (tt, tt)))
post_mailed a ms Stopped t = told_mailed a t.failed_told (fell _ t.write) (λ xs. (tt, tt)) ms

posts_asked : (ms more : List Envelope) (a n : ℕ) (ps : List Posting)
    → Every (λ (p : Posting). IsAnswerOf ms a p.to (answer_in p.message)) ps
    → Every (IsAskedFor (ms ++ more)) (envelopes a n ps)
posts_asked ms more a n [] are = tt
posts_asked ms more a n (p ∷ ps) are =
    (answer_more ms more a p.to (answer_in p.message) are.0, posts_asked ms more a (n + 1) ps are.1)

more_asked : (ms more : List Envelope) → AreAskedFor ms → Every (IsAskedFor (ms ++ more)) more
    → AreAskedFor (ms ++ more)
more_asked ms more are new =
    every-append (IsAskedFor (ms ++ more)) ms more
    (every-weaker (IsAskedFor ms) (IsAskedFor (ms ++ more))
    (λ e is. answer_more ms more e.from e.to (answer_in e.message) is) ms are) new

abbrev pub AreAnswersAt : List Envelope → ℕ → List Posting → Type 0
AreAnswersAt ms a ps = Every (λ (p : Posting). IsAnswerOf ms a p.to (answer_in p.message)) ps

pub post_delivered : (decl : Declaration) (h : List Entry) (a : ℕ) (end : Appended) (t : Turn)
    → AreAnswersAt (mail h) a (sends_as end t) → Delivered decl h
    → Delivered decl (h ++ by a (posted_as end (length (mail h)) t))
post_delivered decl h a end t are d = record {
  mailed = mailed_more [] h (by a (posted_as end (length (mail h)) t)) d.mailed (post_mailed a (mail h) end t);
  asked =
      subst AreAskedFor
      (sym (mail-append h (by a (posted_as end (length (mail h)) t))
      ∙ ap (λ (v : List Envelope). mail h ++ v) (mail-posted_as end a (length (mail h)) t)))
      (more_asked (mail h) (envelopes a (length (mail h)) (sends_as end t)) d.asked
      (posts_asked (mail h) (envelopes a (length (mail h)) (sends_as end t)) a (length (mail h)) (sends_as end t)
      are));
  called =
      every-append (IsCalled decl) h (by a (posted_as end (length (mail h)) t)) d.called
      (post_called decl a (length (mail h)) end t);
}
