-- How an actor's own steps and deeds grow, as the history does.
use Rattle.std.proofs.Common.{[], ◌≡◌, ℕ, ◌+◌, ◌==◌, Bool, false, cond, List, ◌∷◌, ◌++◌, map, filter, Option, Some}
use Rattle.std.proofs.Common.{None, option_to_list, refl, ap, sym, ◌∙◌, append_assoc, suc, length}
use Rattle.std.specs.List.{cons_option}
use Rattle.std.proofs.lemmas.List.{append-nil, map-append}
use Rattle.std.proofs.lemmas.List.Elements.{filter-append}
use Rattle.qc_msg.specs.declared.message.Envelope.{Envelope}
use Rattle.qc_msg.specs.declared.record.Record.{Record}
use Rattle.qc_msg.specs.declared.reply.Reply.{Reply}
use Rattle.qc_msg.specs.declared.step.Fall.{Fall}
use Rattle.qc_msg.specs.declared.step.Step.{Step}
use Rattle.qc_msg.specs.declared.step.Step.TheVariants.{Fell, Rose, Wrote, Sent, Told}
use Rattle.qc_msg.specs.declared.turn.Appended.{Appended}
use Rattle.qc_msg.specs.declared.turn.Appended.TheVariants.{Done, Failed, Stopped}
use Rattle.qc_msg.specs.declared.turn.Posting.{Posting}
use Rattle.qc_msg.specs.declared.turn.Turn.{Turn}
use Rattle.qc_msg.specs.Vocabulary.{Deed, Entry, Falls, Rises, Sends, by, deed_at, deeds, deeds_as, envelope_of, fell}
use Rattle.qc_msg.specs.Vocabulary.{mail, marked, own, posted, posted_as, sends_of, sents, tells_of, told, turn_deeds}
use Rattle.qc_msg.specs.Vocabulary.{writes_of, written, wrote}
use Rattle.qc_msg.proofs.GrownMail.{by-append, by-posted}
use Rattle.qc_list.proofs.Numbers.{number_same}
use Rattle.qc_msg.specs.declared.step.Fall.TheVariants as causes
use Rattle.qc_msg.specs.declared.step.Step.TheVariants as steps

-- an actor's own steps

pub own-append : (a : ℕ) (h k : List Entry) → own a (h ++ k) ≡ own a h ++ own a k
own-append a h k =
    ap (λ (v : List Entry). map (λ (e : Entry). e.step) v) (filter-append (λ (e : Entry). e.actor == a) h k)
    ∙ map-append (λ (e : Entry). e.step) (filter (λ (e : Entry). e.actor == a) h)
    (filter (λ (e : Entry). e.actor == a) k)

pub own-by_same : (a : ℕ) (xs : List Step) → own a (by a xs) ≡ xs
own-by_same a [] = refl
own-by_same a (x ∷ xs) =
    ap (λ (v : Bool). map (λ (e : Entry). e.step)
    (cond v (marked a x ∷ filter (λ (e : Entry). e.actor == a) (by a xs))
    (filter (λ (e : Entry). e.actor == a) (by a xs)))) (number_same a)
    ∙ ap (λ (v : List Step). x ∷ v) (own-by_same a xs)

pub own-by_other : (a b : ℕ) (xs : List Step) → (a == b) ≡ false → own b (by a xs) ≡ []
own-by_other a b [] other = refl
own-by_other a b (x ∷ xs) other =
    ap (λ (v : Bool). map (λ (e : Entry). e.step)
    (cond v (marked a x ∷ filter (λ (e : Entry). e.actor == b) (by a xs))
    (filter (λ (e : Entry). e.actor == b) (by a xs)))) other
    ∙ own-by_other a b xs other

-- a history that goes on by an actor's steps
pub own-more : (a : ℕ) (h : List Entry) (xs : List Step) → own a (h ++ by a xs) ≡ own a h ++ xs
own-more a h xs = own-append a h (by a xs) ∙ ap (λ (v : List Step). own a h ++ v) (own-by_same a xs)

pub own-other : (a b : ℕ) (h : List Entry) (xs : List Step) → (a == b) ≡ false → own b (h ++ by a xs) ≡ own b h
own-other a b h xs other =
    own-append b h (by a xs) ∙ ap (λ (v : List Step). own b h ++ v) (own-by_other a b xs other) ∙ append-nil (own b h)

-- deeds

cons_option-append : (o : Option Envelope) (es : List Envelope) → cons_option o es ≡ option_to_list o ++ es
cons_option-append None es = refl
cons_option-append (Some e) es = refl

pub deeds-append : (a : ℕ) (ms : List Envelope) (h k : List Entry)
    → deeds a ms (h ++ k) ≡ deeds a ms h ++ deeds a (ms ++ mail h) k
deeds-append a ms [] k = ap (λ (v : List Envelope). deeds a v k) (sym (append-nil ms))
deeds-append a ms (e ∷ h) k =
    let here : List Deed = cond (e.actor == a) (deed_at ms e.step) [] in
    let more : List Envelope = option_to_list (envelope_of e) in
    ap (λ (v : List Deed). here ++ v) (deeds-append a (ms ++ more) h k)
    ∙ sym (append_assoc here (deeds a (ms ++ more) h) (deeds a ((ms ++ more) ++ mail h) k))
    ∙ ap (λ (v : List Envelope). (here ++ deeds a (ms ++ more) h) ++ deeds a v k)
    (append_assoc ms more (mail h)
    ∙ ap (λ (v : List Envelope). ms ++ v) (sym (cons_option-append (envelope_of e) (mail h))))

-- steps of another actor are no deeds
pub deeds-none : (a b : ℕ) (ms : List Envelope) (xs : List Step) → (a == b) ≡ false → deeds b ms (by a xs) ≡ []
deeds-none a b ms [] other = refl
deeds-none a b ms (x ∷ xs) other =
    ap (λ (v : Bool). cond v (deed_at ms x) [] ++ deeds b (ms ++ option_to_list (envelope_of (marked a x))) (by a xs))
    other
    ∙ deeds-none a b (ms ++ option_to_list (envelope_of (marked a x))) xs other

-- so the deeds stay where another actor goes on
pub deeds-other : (a b : ℕ) (ms : List Envelope) (h : List Entry) (xs : List Step) → (a == b) ≡ false
    → deeds b ms (h ++ by a xs) ≡ deeds b ms h
deeds-other a b ms h xs other =
    deeds-append b ms h (by a xs)
    ∙ ap (λ (v : List Deed). deeds b ms h ++ v) (deeds-none a b (ms ++ mail h) xs other)
    ∙ append-nil (deeds b ms h)

deeds-wrote : (a : ℕ) (ms : List Envelope) (write : Option Record) → deeds a ms (by a (wrote write)) ≡ writes_of write
deeds-wrote a ms None = refl
deeds-wrote a ms (Some written) = ap (λ (v : Bool). cond v (deed_at ms (Wrote written)) [] ++ []) (number_same a)

deeds-told : (a : ℕ) (ms : List Envelope) (reply : Option Reply) → deeds a ms (by a (told reply)) ≡ tells_of reply
deeds-told a ms None = refl
deeds-told a ms (Some reply) = ap (λ (v : Bool). cond v (deed_at ms (Told reply)) [] ++ []) (number_same a)

deeds-sents : (a n : ℕ) (ms : List Envelope) (ps : List Posting) → deeds a ms (by a (sents n ps)) ≡ sends_of n ps
deeds-sents a n ms [] = refl
deeds-sents a n ms (p ∷ ps) =
    let more : List Envelope = ms ++ option_to_list (envelope_of (marked a (Sent n p.to p.message))) in
    ap (λ (v : Bool). cond v (deed_at ms (Sent n p.to p.message)) [] ++ deeds a more (by a (sents (n + 1) ps)))
    (number_same a)
    ∙ ap (λ (v : List Deed). Sends n p.to p.message ∷ v) (deeds-sents a (n + 1) more ps)

-- what a turn does
pub deeds-by_same : (a n : ℕ) (ms : List Envelope) (turn : Turn) → deeds a ms (by a (posted n turn)) ≡ turn_deeds n turn
deeds-by_same a n ms turn =
    let w : List Entry = by a (wrote turn.write) in
    let s : List Entry = by a (sents n turn.sends) in
    let t : List Entry = by a (told turn.told) in
    ap (λ (v : List Entry). deeds a ms v) (by-posted a n turn)
    ∙ deeds-append a ms w (s ++ t)
    ∙ ap (λ (v : List Deed). v ++ deeds a (ms ++ mail w) (s ++ t)) (deeds-wrote a ms turn.write)
    ∙ ap (λ (v : List Deed). writes_of turn.write ++ v)
    (deeds-append a (ms ++ mail w) s t
    ∙ ap (λ (v : List Deed). v ++ deeds a ((ms ++ mail w) ++ mail s) t) (deeds-sents a n (ms ++ mail w) turn.sends)
    ∙ ap (λ (v : List Deed). sends_of n turn.sends ++ v) (deeds-told a ((ms ++ mail w) ++ mail s) turn.told))

-- posts by what became of the record

deeds-two : (a : ℕ) (ms : List Envelope) (xs ys : List Step) (ds es : List Deed)
    → ((ns : List Envelope) → deeds a ns (by a xs) ≡ ds) → ((ns : List Envelope) → deeds a ns (by a ys) ≡ es)
    → deeds a ms (by a (xs ++ ys)) ≡ ds ++ es
deeds-two a ms xs ys ds es first second =
    ap (λ (v : List Entry). deeds a ms v) (by-append a xs ys)
    ∙ deeds-append a ms (by a xs) (by a ys)
    ∙ ap (λ (v : List Deed). v ++ deeds a (ms ++ mail (by a xs)) (by a ys)) (first ms)
    ∙ ap (λ (v : List Deed). ds ++ v) (second (ms ++ mail (by a xs)))

pub deeds-fell : (a : ℕ) (ms : List Envelope) (cause : Fall) (pending : Option Record)
    → deeds a ms (by a (fell cause pending)) ≡ Falls cause pending ∷ []
deeds-fell a ms cause pending = ap (λ (v : Bool). cond v (deed_at ms (Fell cause pending)) [] ++ []) (number_same a)

pub deeds-rose : (a : ℕ) (ms : List Envelope) (records : List Record)
    → deeds a ms (by a (Rose records ∷ [])) ≡ Rises records ∷ []
deeds-rose a ms records = ap (λ (v : Bool). cond v (deed_at ms (Rose records)) [] ++ []) (number_same a)

pub deeds-as_same : (end : Appended) (a n : ℕ) (ms : List Envelope) (turn : Turn)
    → deeds a ms (by a (posted_as end n turn)) ≡ deeds_as end n turn
deeds-as_same Done a n ms turn = deeds-by_same a n ms turn
deeds-as_same Failed a n ms turn =
    deeds-two a ms (sents n turn.failed_sends) (told turn.failed_told ++ fell causes.Disk turn.write)
    (sends_of n turn.failed_sends) (tells_of turn.failed_told ++ Falls causes.Disk turn.write ∷ [])
    (λ ns. deeds-sents a n ns turn.failed_sends)
    (λ ns. deeds-two a ns (told turn.failed_told) (fell causes.Disk turn.write) (tells_of turn.failed_told)
    (Falls causes.Disk turn.write ∷ []) (λ os. deeds-told a os turn.failed_told)
    (λ os. deeds-fell a os causes.Disk turn.write))
deeds-as_same Stopped a n ms turn =
    deeds-two a ms (told turn.failed_told) (fell causes.Stop turn.write) (tells_of turn.failed_told)
    (Falls causes.Stop turn.write ∷ []) (λ ns. deeds-told a ns turn.failed_told)
    (λ ns. deeds-fell a ns causes.Stop turn.write)

pub length-by : (a : ℕ) (ss : List Step) → length (by a ss) ≡ length ss
length-by a [] = refl
length-by a (s ∷ ss) = ap suc (length-by a ss)

pub deeds-rise : (a : ℕ) (h : List Entry) (records : List Record)
    → deeds a [] (h ++ marked a (steps.Rose records) ∷ []) ≡ deeds a [] h ++ Rises records ∷ []
deeds-rise a h records =
    deeds-append a [] h (by a (steps.Rose records ∷ []))
    ∙ ap (λ (ds : List Deed). deeds a [] h ++ ds) (deeds-rose a (mail h) records)
