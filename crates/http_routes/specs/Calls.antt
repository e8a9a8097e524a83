-- Which targets name a method of a service.
use Rattle.std.specs.Prelude.{◌≡◌, ◌≢◌, ℕ, List, [], ◌∷◌, ◌++◌, codes}
use Rattle.std.specs.List.{AllByRecursion}

-- one byte or more, and none of them `/`
pub record IsPart (part : List ℕ) : Type 0 where
  pub some : part ≢ []
  pub no_slash : AllByRecursion (λ b. b ≢ 47) part

-- the target is `/prpc/`, the service, `/` and the method
pub record IsCall (target service method : List ℕ) : Type 0 where
  pub text : target ≡ codes "/prpc/" ++ (service ++ 47 ∷ method)
  pub service_part : IsPart service
  pub method_part : IsPart method
