-- The actors' numbers: sites first, then clients, then the administrator, then the controller.
use Rattle.std.specs.Prelude.{ℕ, ◌+◌, ◌%◌, ◌==◌, Bool, ◌&&◌, nat_le, nat_lt}
use Rattle.qc_decl.specs.declared.declaration.Declaration.{Declaration}

-- the actor's number of a client
abbrev pub client_actor : Declaration → ℕ → ℕ
client_actor decl client = decl.sites + client

abbrev pub administrator : Declaration → ℕ
administrator decl = decl.sites + decl.clients

abbrev pub controller : Declaration → ℕ
controller decl = decl.sites + decl.clients + 1

-- how many actors take inputs: the sites, the clients and the administrator
abbrev pub actors : Declaration → ℕ
actors decl = decl.sites + decl.clients + 1

-- whether an actor is a site, a client, or the administrator

abbrev pub is_site : Declaration → ℕ → Bool
is_site decl a = nat_lt a decl.sites

abbrev pub is_client : Declaration → ℕ → Bool
is_client decl a = nat_le decl.sites a && nat_lt a (administrator decl)

abbrev pub is_administrator : Declaration → ℕ → Bool
is_administrator decl a = a == administrator decl

-- the site that a client asks first: its order over the sites is the cyclic one from here
abbrev pub first_site : Declaration → ℕ → ℕ
first_site decl client = client % decl.sites
