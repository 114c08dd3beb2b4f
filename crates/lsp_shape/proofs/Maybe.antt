-- What is read where null may stand.
use Rattle.std.proofs.Common.{◌≡◌, refl, true, false, is_some, option_map, Option, Some}
use Rattle.serde_json.specs.Data.{Data, null, boolean, number, string, array, object}
use Rattle.serde_json.specs.Find.{as_null}
use Rattle.lsp_shape.specs.Plain.{Plain, absent, present}
use Rattle.lsp_shape.specs.Read.{read_maybe}

pub maybe_there : (f : Data → Option Plain) (d : Data) → is_some (as_null d) ≡ false → read_maybe f d ≡ option_map present (f d)
maybe_there f null e = cc
maybe_there f (boolean x) e = refl
maybe_there f (number x) e = refl
maybe_there f (string x) e = refl
maybe_there f (array x) e = refl
maybe_there f (object x) e = refl

pub maybe_not : (f : Data → Option Plain) (d : Data) → is_some (as_null d) ≡ true → read_maybe f d ≡ Some absent
maybe_not f null e = refl
maybe_not f (boolean x) e = cc
maybe_not f (number x) e = cc
maybe_not f (string x) e = cc
maybe_not f (array x) e = cc
maybe_not f (object x) e = cc
