-- What a line asks for names what is declared, and has its numbers in range, where it is read.
use Rattle.std.proofs.Common.{◌≡◌, ◌≢◌, ℕ, ◌+◌, ◌<◌, Bool, true, false, not, cond, Option, Some, None, refl, subst}
use Rattle.std.proofs.Common.{arith}
use Rattle.std.specs.Prelude.{◌==◌, IsTrue, length, nat_le, nat_lt, option_map}
use Rattle.std.proofs.lemmas.Bool.{and_from, eq-eqb, le-leb, lt-ltb, ltb-true}
use Rattle.qc_decl.specs.Vocabulary.{administrator, client_actor, inv_named, is_client, object_named}
use Rattle.qc_decl.specs.declared.declaration.Declaration.{Declaration}
use Rattle.qc_link.specs.declared.plan.Link.{Link}
use Rattle.qc_msg.specs.declared.step.Command.{Command}
use Rattle.qc_msg.specs.declared.step.Command.TheVariants as commands
use Rattle.qc_msg.specs.declared.step.Control.{Control}
use Rattle.qc_msg.specs.declared.step.Control.TheVariants as controls
use Rattle.qc_script.specs.Vocabulary.{IsActor, IsAskedFor, IsCommandFor, IsControlFor, IsEnd, IsLinkFor, IsOrdinal}
use Rattle.qc_script.specs.Vocabulary.{actor_in, end_in, is_control_in_range, is_in_range, is_ordinal, item_of}
use Rattle.qc_script.specs.Vocabulary.{most_number, ◌>>=◌}
use Rattle.qc_script.specs.Items.{client_in, command_in}
use Rattle.qc_script.specs.declared.actor.ActorName.{ActorName}
use Rattle.qc_script.specs.declared.actor.ActorName.TheVariants.{Site, Client, Administrator}
use Rattle.qc_script.specs.declared.item.Item.{Item}
use Rattle.qc_script.specs.declared.item.Item.TheVariants as items
use Rattle.qc_script.specs.declared.line.ScriptLine.{ScriptLine}
use Rattle.qc_script.specs.declared.line.ScriptLine.TheVariants as lines
use Rattle.qc_script.specs.declared.line.Verb.{Verb}
use Rattle.qc_script.specs.declared.line.Verb.TheVariants as verbs
use Rattle.qc_script.specs.declared.script.CommandLine.{CommandLine}
use Rattle.qc_decl.proofs.Between.{between}

-- the names of an item are declared

abbrev pub NamesActors : Declaration → Control → Type 0
NamesActors decl (controls.Phase number) = ⊥
NamesActors decl (controls.Cut a b) = IsActor decl a × IsActor decl b
NamesActors decl (controls.Heal a b) = IsActor decl a × IsActor decl b
NamesActors decl (controls.Armed actor kind at) = IsActor decl actor
NamesActors decl (controls.Crash actor) = IsActor decl actor
NamesActors decl (controls.Restart actor) = IsActor decl actor

abbrev pub IsNamedFor : Declaration → Item → Type 0
IsNamedFor decl items.Phase = Unit {0}
IsNamedFor decl (items.Link link) = IsEnd decl link.from × IsEnd decl link.to
IsNamedFor decl (items.Control control) = NamesActors decl control
IsNamedFor decl (items.Command line) = IsCommandFor decl line
IsNamedFor decl (items.Epoch actor number) = actor ≡ administrator decl

-- what a step that gave something stands on
bound : {A B : Type 0} (o : Option A) (next : A → Option B) (y : B) → (o >>= next) ≡ Some y
    → (x : A) × (o ≡ Some x) × (next x ≡ Some y)
bound None next y is = absurd (let never : ⊥ = cc in never)
bound (Some x) next y is = (x, refl, is)

-- what a number below a bound is
below : (n m x k : ℕ) → cond (nat_lt n m) (Some x) None ≡ Some k → (n < m) × (x ≡ k)
below n m x k is = by (nat_lt n m) refl is where
  by : (b : Bool) → nat_lt n m ≡ b → cond b (Some x) None ≡ Some k → (n < m) × (x ≡ k)
  by true less same = (ltb-true n m less, cc)
  by false past same = absurd (let never : ⊥ = cc in never)

client_is : (decl : Declaration) (number a : ℕ) → client_in decl number ≡ Some a
    → IsTrue (is_client decl a) × IsActor decl a
client_is decl number a is =
    let b = below number decl.clients (client_actor decl number) a is in
    let less = b.0 in let same = b.1 in (
      and_from (nat_le decl.sites a) (nat_lt a (decl.sites + decl.clients)) (le-leb decl.sites a (omega arith))
          (lt-ltb a (decl.sites + decl.clients) (omega arith)),
      omega arith,
    )

actor_is : (decl : Declaration) (name : ActorName) (a : ℕ) → actor_in decl name ≡ Some a → IsActor decl a
actor_is decl (Site number) a is = let b = below number decl.sites number a is in let less = b.0 in let same = b.1 in
    omega arith
actor_is decl (Client number) a is = (client_is decl number a is).1
actor_is decl Administrator a is = let same : administrator decl ≡ a = cc in omega arith

end_is : (decl : Declaration) (end : Option ActorName) (e : Option ℕ) → end_in decl end ≡ Some e → IsEnd decl e
end_is decl None e is = let none : Option ℕ = None in let same : none ≡ e = cc in subst (IsEnd decl) same tt
end_is decl (Some name) e is = by (actor_in decl name) refl is where
  by : (o : Option ℕ) → actor_in decl name ≡ o → option_map Some o ≡ Some e → IsEnd decl e
  by None none is = absurd (let never : ⊥ = cc in never)
  by (Some a) some is = let same : Some a ≡ e = cc in subst (IsEnd decl) same (actor_is decl name a some)

command_is : (decl : Declaration) (actor : ℕ) (verb : Verb) (command : Command) → IsTrue (is_client decl actor)
    → command_in decl verb ≡ Some command → IsAskedFor decl actor command
command_is decl actor verbs.Begin command client is = let same : commands.Begin ≡ command = cc in
    subst (IsAskedFor decl actor) same client
command_is decl actor (verbs.Do object inv) command client is =
    let o = bound (object_named decl object)
    (λ of. inv_named decl of inv >>= (λ what. Some (commands.Do of what))) command is in
    let i = bound (inv_named decl o.0 inv) (λ what. Some (commands.Do o.0 what)) command o.2 in
    let done : Some (commands.Do o.0 i.0) ≡ Some command = i.2 in
    let same : commands.Do o.0 i.0 ≡ command = cc in
    subst (IsAskedFor decl actor) same (client, (object, o.1), (inv, i.1))
command_is decl actor verbs.Commit command client is = let same : commands.Commit ≡ command = cc in
    subst (IsAskedFor decl actor) same client
command_is decl actor verbs.Abort command client is = let same : commands.Abort ≡ command = cc in
    subst (IsAskedFor decl actor) same client

-- two actors, and one
two_named : (decl : Declaration) (first second : ActorName) (make : ℕ → ℕ → Item) (item : Item)
    → ((a b : ℕ) → IsActor decl a → IsActor decl b → IsNamedFor decl (make a b))
    → (actor_in decl first >>= (λ a. actor_in decl second >>= (λ b. Some (make a b)))) ≡ Some item
    → IsNamedFor decl item
two_named decl first second make item named is =
    let x = bound (actor_in decl first) (λ a. actor_in decl second >>= (λ b. Some (make a b))) item is in
    let y = bound (actor_in decl second) (λ b. Some (make x.0 b)) item x.2 in
    let done : Some (make x.0 y.0) ≡ Some item = y.2 in
    let same : make x.0 y.0 ≡ item = cc in
    subst (IsNamedFor decl) same (named x.0 y.0 (actor_is decl first x.0 x.1) (actor_is decl second y.0 y.1))

one_named : (decl : Declaration) (name : ActorName) (make : ℕ → Item) (item : Item)
    → ((a : ℕ) → IsActor decl a → IsNamedFor decl (make a))
    → (actor_in decl name >>= (λ a. Some (make a))) ≡ Some item → IsNamedFor decl item
one_named decl name make item named is =
    let x = bound (actor_in decl name) (λ a. Some (make a)) item is in
    let done : Some (make x.0) ≡ Some item = x.2 in
    let same : make x.0 ≡ item = cc in
    subst (IsNamedFor decl) same (named x.0 (actor_is decl name x.0 x.1))

pub item_named : (decl : Declaration) (line : ScriptLine) (item : Item) → item_of decl line ≡ Some item
    → IsNamedFor decl item
item_named decl lines.Phase item is = let same : items.Phase ≡ item = cc in subst (IsNamedFor decl) same tt
item_named decl (lines.Link from to ordinal rule) item is =
    let link : Option ℕ → Option ℕ → Link = λ f t. record { from = f; to = t; ordinal = ordinal; rule = rule } in
    let x = bound (end_in decl from) (λ f. end_in decl to >>= (λ t. Some (items.Link (link f t)))) item is in
    let y = bound (end_in decl to) (λ t. Some (items.Link (link x.0 t))) item x.2 in
    let done : Some (items.Link (link x.0 y.0)) ≡ Some item = y.2 in
    let same : items.Link (link x.0 y.0) ≡ item = cc in
    subst (IsNamedFor decl) same (end_is decl from x.0 x.1, end_is decl to y.0 y.1)
item_named decl (lines.Cut first second) item is =
    two_named decl first second (λ a b. items.Control (controls.Cut a b)) item (λ a b l m. (l, m)) is
item_named decl (lines.Heal first second) item is =
    two_named decl first second (λ a b. items.Control (controls.Heal a b)) item (λ a b l m. (l, m)) is
item_named decl (lines.Crash name) item is =
    one_named decl name (λ a. items.Control (controls.Crash a)) item (λ a l. l) is
item_named decl (lines.Restart name) item is =
    one_named decl name (λ a. items.Control (controls.Restart a)) item (λ a l. l) is
item_named decl (lines.Armed name kind at) item is =
    one_named decl name (λ a. items.Control (controls.Armed a kind at)) item (λ a l. l) is
item_named decl (lines.Command client verb) item is =
    let line : ℕ → Command → CommandLine = λ a c. record { actor = a; command = c } in
    let x = bound (client_in decl client) (λ a. command_in decl verb >>= (λ c. Some (items.Command (line a c)))) item is
    in
    let y = bound (command_in decl verb) (λ c. Some (items.Command (line x.0 c))) item x.2 in
    let done : Some (items.Command (line x.0 y.0)) ≡ Some item = y.2 in
    let same : items.Command (line x.0 y.0) ≡ item = cc in
    subst (IsNamedFor decl) same (command_is decl x.0 verb y.0 (client_is decl client x.0 x.1).0 y.1)
item_named decl (lines.Epoch number) item is =
    let same : items.Epoch (administrator decl) number ≡ item = cc in subst (IsNamedFor decl) same refl

-- with its numbers in range

abbrev pub IsItemFor : Declaration → Item → Type 0
IsItemFor decl items.Phase = Unit {0}
IsItemFor decl (items.Link link) = IsLinkFor decl link
IsItemFor decl (items.Control control) = IsControlFor decl control
IsItemFor decl (items.Command line) = IsCommandFor decl line
IsItemFor decl (items.Epoch actor number) = IsAskedFor decl actor (commands.Epoch number)

two_apart : (a b : ℕ) → not (a == b) ≡ true → a ≢ b
two_apart a b is = λ same. let equal : (a == b) ≡ true = eq-eqb a b same in absurd (let never : ⊥ = cc in never)

ordinal_ranged : (ordinal : Option ℕ) → is_ordinal ordinal ≡ true → IsOrdinal ordinal
ordinal_ranged None is = tt
ordinal_ranged (Some n) is = between 1 most_number n is

control_ranged : (decl : Declaration) (control : Control) → NamesActors decl control
    → is_control_in_range control ≡ true → IsControlFor decl control
control_ranged decl (controls.Phase number) named is = named
control_ranged decl (controls.Cut a b) named is = (named.0, named.1, two_apart a b is)
control_ranged decl (controls.Heal a b) named is = (named.0, named.1, two_apart a b is)
control_ranged decl (controls.Armed actor kind at) named is = (named, between 1 most_number at is)
control_ranged decl (controls.Crash actor) named is = named
control_ranged decl (controls.Restart actor) named is = named

pub item_ranged : (decl : Declaration) (item : Item) → IsNamedFor decl item → is_in_range decl item ≡ true
    → IsItemFor decl item
item_ranged decl items.Phase named is = tt
item_ranged decl (items.Link link) named is = (named.0, named.1, ordinal_ranged link.ordinal is)
item_ranged decl (items.Control control) named is = control_ranged decl control named is
item_ranged decl (items.Command line) named is = named
item_ranged decl (items.Epoch actor number) named is = let b = between 2 (length decl.plans) number is in
    (named, b.0, b.1)
