-- The code's own word, which no contract cites: the one route as the router keeps it.
use Rattle.std.specs.Prelude.{[], ◌∷◌, ◌++◌, codes}
use Rattle.matchit.specs.Rows.{RowsOf, param_token}
use Rattle.matchit.specs.Router.{RouteOf}

-- the pattern, the text, and where in it the names of the parameters stand
abbrev pub call_route : RouteOf (Unit {0})
call_route = record {
  pattern = codes "/prpc/" ++ param_token ∷ 47 ∷ param_token ∷ [];
  text = codes "/prpc/{service}/{method}";
  names = (7, 14) ∷ (17, 23) ∷ [];
  value = tt;
}

abbrev pub call_rows : RowsOf (RouteOf (Unit {0}))
call_rows = (call_route.pattern, call_route) ∷ []
