-- A record, field by field.
use Rattle.std.proofs.Common.{◌≡◌, ◌⊎◌, inl, inr, ℕ, List, Bool, true, ◌&&◌, Option, Some, None, refl, ap, sym, subst, ◌∙◌}
use Rattle.std.specs.Prelude.{Result, Ok, Err, IfOk, OnOk}
use Rattle.serde_json.specs.Data.{Data, object, Members, no_members}
use Rattle.serde_json.specs.Find.{get_member}
use Rattle.lsp_shape.specs.Plain.{Plain, Parts, part, parts, no_parts}
use Rattle.lsp_shape.specs.Shape.{Rule, required, omitted, Shape, Fields, no_fields, field, supported, fields, are_distinct}
use Rattle.lsp_shape.specs.Read.{and_part, read, read_fields, read_member, read_supported, reads_none}
use Rattle.lsp_shape.specs.Write.{write, write_fields, write_member, writes_null}
use Rattle.lsp_shape.specs.Values.{is_of, are_fields, by_rule, is_none, is_maybe}
use Rattle.lsp_shape.specs.Object.{members_of, misfit_of, Takes, written_to, is_whole, Puts}
use Rattle.lsp_shape.specs.declared.object.WideReader.{WideReader}
use Rattle.lsp_shape.specs.declared.object.Writer.{Writer}
use Rattle.lsp_shape.specs.Why.{Refuses, AnyRefuses, one_field, one_supported}
use Rattle.lsp_shape.specs.declared.why.Misfit.{Misfit}
use Rattle.lsp_shape.specs.declared.why.Misfit.TheVariants.{Unfit}
use Rattle.lsp_shape.specs.declared.why.Why.{Why}
use Rattle.lsp_shape.proofs.Refusals.{record_refuses}

pub and_part-Some : {o : Option Plain} {r : Option Parts} {p : Plain} {ps : Parts} → o ≡ Some p → r ≡ Some ps → and_part o r ≡ Some (part p ps)
and_part-Some {o} {r} {p} {ps} a b = rw (a, b) refl

-- the value is an object with these members, whose fields are read as these parts
pub fields_some : (fs : Fields) (d : Data) (ms : Members) (ps : Parts) → d ≡ object ms → read_fields fs reads_none (object ms) ≡ Some ps → read (fields fs) d ≡ Some (parts ps)
fields_some fs d ms ps e a = rw (e, a) refl

-- the value is an object whose fields are not read
pub fields_none : (fs : Fields) (d : Data) (ms : Members) → d ≡ object ms → read_fields fs reads_none (object ms) ≡ None → read (fields fs) d ≡ None
fields_none fs d ms e a = rw (e, a) refl

-- ---- a record that is read, line by line: by the last line, and then by each line before it

-- from here on the fields are read as these parts, and no misfit is to be told
pub record Reads (now : WideReader) (fs : Fields) (ps : Parts) : Type 0 where
  fits : misfit_of now ≡ None
  read : read_fields fs reads_none (object (members_of now)) ≡ Some ps

pub reads_end : (now : WideReader) → misfit_of now ≡ None → Reads now no_fields no_parts
reads_end now a = record { fits = a; read = refl }

later : (old new : WideReader) (fs : Fields) → members_of new ≡ members_of old → read_fields fs reads_none (object (members_of old)) ≡ read_fields fs reads_none (object (members_of new))
later old new fs e = ap (λ (ms : Members). read_fields fs reads_none (object ms)) (sym e)

-- a member whose misfit is told at the end
pub reads_member : {old : WideReader} {name : List ℕ} {r : Rule} {s : Shape} {p : Plain} {fs : Fields} {ps : Parts} (new : WideReader) → Takes old new (one_field name r s) (read_member r (read s) (get_member name (members_of old))) p → Reads new fs ps → Reads old (field name r s fs) (part p ps)
reads_member {old} {name} {r} {s} {p} {fs} {ps} new t a = record {
  fits = t.1 a.fits;
  read = and_part-Some {o = read_member r (read s) (get_member name (members_of old))} (t.2 a.fits) (later old new fs t.0 ∙ a.read);
}

pub reads_supported : {old : WideReader} {name : List ℕ} {s : Shape} {p : Plain} {fs : Fields} {ps : Parts} (new : WideReader) → Takes old new (one_supported name s) (read_supported (read s) (get_member name (members_of old))) p → Reads new fs ps → Reads old (supported name s fs) (part p ps)
reads_supported {old} {name} {s} {p} {fs} {ps} new t a = record {
  fits = t.1 a.fits;
  read = and_part-Some {o = read_supported (read s) (get_member name (members_of old))} (t.2 a.fits) (later old new fs t.0 ∙ a.read);
}

-- a member that was read at once
pub reads_required : {now : WideReader} {name : List ℕ} {s : Shape} {p : Plain} {fs : Fields} {ps : Parts} → read_member required (read s) (get_member name (members_of now)) ≡ Some p → Reads now fs ps → Reads now (field name required s fs) (part p ps)
reads_required {now} {name} {s} {p} {fs} {ps} e a = record {
  fits = a.fits;
  read = and_part-Some {o = read_member required (read s) (get_member name (members_of now))} e a.read;
}

pub record_read : (fs : Fields) (ps : Parts) (now : WideReader) (d : Data) → d ≡ object (members_of now) → Reads now fs ps → read (fields fs) d ≡ Some (parts ps)
record_read fs ps now d e a = fields_some fs d (members_of now) ps e a.read

-- from here on a field's reason is to be told, or that one was kept
pub record Unread (now : WideReader) (fs : Fields) (reason : Why) : Type 0 where
  why : (misfit_of now ≡ Some (Unfit reason)) ⊎ AnyRefuses fs (object (members_of now)) reason

pub unread_end : (now : WideReader) {reason : Why} → misfit_of now ≡ Some (Unfit reason) → Unread now no_fields reason
unread_end now a = record { why = inl a }

earlier : (old new : WideReader) (fs : Fields) (reason : Why) → members_of new ≡ members_of old → AnyRefuses fs (object (members_of new)) reason → AnyRefuses fs (object (members_of old)) reason
earlier old new fs reason e a = let P : Members → Type 0 = λ ms. AnyRefuses fs (object ms) reason in subst P e a

one_of_them : {A B C D E : Type 0} → (A → B ⊎ C) → (D → E) → A ⊎ D → C ⊎ (B ⊎ E)
one_of_them {A} {B} {C} {D} {E} f g (inl a) = case (f a)
  where
    case : B ⊎ C → C ⊎ (B ⊎ E)
    case (inl b) = inr (inl b)
    case (inr c) = inl c
one_of_them f g (inr d) = inr (inr (g d))

-- a member whose misfit is told at the end
pub unread_member : {old : WideReader} {name : List ℕ} {r : Rule} {s : Shape} {p : Plain} {fs : Fields} {reason : Why} (new : WideReader) → Takes old new (one_field name r s) (read_member r (read s) (get_member name (members_of old))) p → Unread new fs reason → Unread old (field name r s fs) reason
unread_member {old} {name} {r} {s} {p} {fs} {reason} new t a = record { why = one_of_them (t.3 reason) (earlier old new fs reason t.0) a.why }

pub unread_supported : {old : WideReader} {name : List ℕ} {s : Shape} {p : Plain} {fs : Fields} {reason : Why} (new : WideReader) → Takes old new (one_supported name s) (read_supported (read s) (get_member name (members_of old))) p → Unread new fs reason → Unread old (supported name s fs) reason
unread_supported {old} {name} {s} {p} {fs} {reason} new t a = record { why = one_of_them (t.3 reason) (earlier old new fs reason t.0) a.why }

behind : {A B D : Type 0} → A ⊎ D → A ⊎ (B ⊎ D)
behind (inl a) = inl a
behind (inr d) = inr (inr d)

-- a member that was read at once
pub unread_required : {now : WideReader} {name : List ℕ} {s : Shape} {fs : Fields} {reason : Why} → Unread now fs reason → Unread now (field name required s fs) reason
unread_required {now} {name} {s} {fs} {reason} a = record { why = behind a.why }

never : {A : Type 0} (o : Option Misfit) (m : Misfit) → o ≡ None → o ≡ Some m → A
never o m a b = absurd (cc)

pub record_unread : (fs : Fields) (now : WideReader) (d : Data) {reason : Why} → d ≡ object (members_of now) → misfit_of now ≡ None → Unread now fs reason → Refuses (fields fs) d reason
record_unread fs now d {reason} e a u = let P : Data → Type 0 = λ x. Refuses (fields fs) x reason in subst P (sym e) (record_refuses fs (object (members_of now)) reason (told u.why))
  where
    told : (misfit_of now ≡ Some (Unfit reason)) ⊎ AnyRefuses fs (object (members_of now)) reason → AnyRefuses fs (object (members_of now)) reason
    told (inl b) = never (misfit_of now) (Unfit reason) a b
    told (inr b) = b

-- ---- a record that is written, in the same way

-- from here on the fields are written of these parts, which are of their shape, and make these members
pub record Writes (final : Members) (now : Writer) (fs : Fields) (ps : Parts) : Type 0 where
  whole : is_whole now ≡ true
  put : final ≡ write_fields fs writes_null ps (written_to now)
  of_shape : are_fields fs is_none ps ≡ true

pub writes_end : (now : Writer) → is_whole now ≡ true → Writes (written_to now) now no_fields no_parts
writes_end now a = record { whole = a; put = refl; of_shape = refl }

both : {a b : Bool} → a ≡ true → b ≡ true → a && b ≡ true
both {a} {b} e f = rw (e, f) refl

pub writes_member : {final : Members} {old : Writer} {name : List ℕ} {r : Rule} {s : Shape} {p : Plain} {fs : Fields} {ps : Parts} (new : Writer) → Puts old new (write_member name r (write s) p (written_to old)) (by_rule r (is_of s) p) → Writes final new fs ps → Writes final old (field name r s fs) (part p ps)
writes_member {final} {old} {name} {r} {s} {p} {fs} {ps} new t a = record {
  whole = t.0 a.whole;
  put = a.put ∙ ap (write_fields fs writes_null ps) (t.1 a.whole);
  of_shape = both {a = by_rule r (is_of s) p} (t.2 a.whole) a.of_shape;
}

pub writes_supported : {final : Members} {old : Writer} {name : List ℕ} {s : Shape} {p : Plain} {fs : Fields} {ps : Parts} (new : Writer) → Puts old new (write_member name omitted (write s) p (written_to old)) (is_maybe (is_of s) p) → Writes final new fs ps → Writes final old (supported name s fs) (part p ps)
writes_supported {final} {old} {name} {s} {p} {fs} {ps} new t a = record {
  whole = t.0 a.whole;
  put = a.put ∙ ap (write_fields fs writes_null ps) (t.1 a.whole);
  of_shape = both {a = is_maybe (is_of s) p} (t.2 a.whole) a.of_shape;
}

pub record_written : {fs : Fields} {ps : Parts} (final : Members) (now : Writer) (d : Data) → d ≡ object final → written_to now ≡ no_members → Writes final now fs ps → d ≡ write (fields fs) (parts ps)
record_written {fs} {ps} final now d e f a = e ∙ ap object (a.put ∙ ap (write_fields fs writes_null ps) f)

pub record_of_shape : {final : Members} {now : Writer} {fs : Fields} {ps : Parts} → are_distinct fs ≡ true → Writes final now fs ps → is_of (fields fs) (parts ps) ≡ true
record_of_shape e a = both e a.of_shape

-- ---- what the end gives

-- what holds of the value that was read, where nothing failed
pub when_ok : {T E Q : Type 0} {v : T} (P : T → Type 0) (r : Result T E) → IfOk r (λ x. x ≡ v) → OnOk r Q → (Q → P v) → IfOk r P
when_ok P (Ok x) e q f = subst P (sym e) (f q)
when_ok P (Err e) a q f = a

pub both_ok : {T E Q : Type 0} (P R : T → Type 0) (r : Result T E) → IfOk r P → OnOk r Q → ((v : T) → P v → Q → R v) → IfOk r R
both_ok P R (Ok x) a q f = f x a q
both_ok P R (Err e) a q f = a
