-- The tables of a TOML document, and what in it is not of their shape.
use Rattle.std.specs.Prelude.{ℕ, ◌+◌, Bool, ◌||◌, List, [], ◌∷◌, ◌++◌, Option, Some, None, option_and_then, unwrap_or, option_map, is_some, codes, if◌then◌else◌}
use Rattle.std.specs.Str.{bytes_eq}
use Rattle.std.specs.Fmt.{decimal}
use Rattle.toml.specs.Data.{Data, Items, no_items, item, Members, no_members, member, as_str, as_array, as_table, get_member}
use Rattle.policy_tables.specs.declared.findings.Finding.{Finding}
use Rattle.policy_document.specs.declared.shape.Shape.{Shape}
use Rattle.policy_document.specs.declared.shape.Shape.TheVariants.{Document, User, Group, Role, Realm, Binding, Sink}
use Rattle.policy_tables.specs.declared.tables.User.{User as UserEntry}
use Rattle.policy_tables.specs.declared.tables.Group.{Group as GroupEntry}
use Rattle.policy_tables.specs.declared.tables.Role.{Role as RoleEntry}
use Rattle.policy_tables.specs.declared.tables.Binding.{Binding as BindingEntry}
use Rattle.policy_tables.specs.declared.tables.RealmTable.{RealmTable}
use Rattle.policy_tables.specs.declared.tables.PolicyTables.{PolicyTables}
use Rattle.policy_tables.specs.Entries.{with_entry}
use Rattle.policy_tables.specs.Findings.{joined, at}

-- the keys that a table may have
abbrev pub is_known : Shape → List ℕ → Bool
is_known Document k =
    bytes_eq k (codes "secret") || bytes_eq k (codes "user") || bytes_eq k (codes "group")
    || bytes_eq k (codes "role") || bytes_eq k (codes "realm")
is_known User k = bytes_eq k (codes "token")
is_known Group k = bytes_eq k (codes "members")
is_known Role k = bytes_eq k (codes "permissions")
is_known Realm k = bytes_eq k (codes "extends") || bytes_eq k (codes "bindings")
is_known Binding k = bytes_eq k (codes "role") || bytes_eq k (codes "principals")
is_known Sink k = bytes_eq k (codes "token") || bytes_eq k (codes "update_token")

-- each key that a table may not have
abbrev pub unknown_keys : Shape → List ℕ → Members → List Finding
unknown_keys shape path no_members = []
unknown_keys shape path (member k d ms) =
    if is_known shape k then unknown_keys shape path ms
    else at (joined path k) ∷ unknown_keys shape path ms

-- the text, the list and the table at a key
abbrev pub text_at : List ℕ → Members → Option (List ℕ)
text_at k t = option_and_then as_str (get_member k t)

abbrev pub list_at : List ℕ → Members → Option Items
list_at k t = option_and_then as_array (get_member k t)

-- a path where a value of the right kind is missing
abbrev pub missing : {A : Type 0} → List ℕ → Option A → List Finding
missing path None = at path ∷ []
missing path (Some _) = []

-- the text that is wanted at a key
abbrev pub text_of : List ℕ → Members → List ℕ
text_of k t = unwrap_or (text_at k t) []

abbrev pub text_findings : List ℕ → List ℕ → Members → List Finding
text_findings path k t = missing (joined path k) (text_at k t)

-- the texts in a list
abbrev pub item_texts : Items → List (List ℕ)
item_texts no_items = []
item_texts (item d ds) = unwrap_or (as_str d) [] ∷ item_texts ds

-- the places of a list, from this one on, that hold no text
abbrev pub item_findings : List ℕ → ℕ → Items → List Finding
item_findings path n no_items = []
item_findings path n (item d ds) =
    missing (joined path (decimal n)) (as_str d) ++ item_findings path (n + 1) ds

-- the texts of a list, of none where there is no list
abbrev pub texts_in : Option Items → List (List ℕ)
texts_in None = []
texts_in (Some ds) = item_texts ds

abbrev pub list_findings : List ℕ → Option Items → List Finding
list_findings path None = at path ∷ []
list_findings path (Some ds) = item_findings path 0 ds

-- the list of texts that is wanted at a key
abbrev pub texts_of : List ℕ → Members → List (List ℕ)
texts_of k t = texts_in (list_at k t)

abbrev pub texts_findings : List ℕ → List ℕ → Members → List Finding
texts_findings path k t = list_findings (joined path k) (list_at k t)

-- a path where something stands that is of the wrong kind; nothing where nothing stands
abbrev pub wrong_kind : List ℕ → Option Data → List Finding
wrong_kind path d = if is_some d then at path ∷ [] else []

-- the list of texts at a key that may be absent
abbrev pub optional_list_findings : List ℕ → Option Data → Option Items → List Finding
optional_list_findings path d None = wrong_kind path d
optional_list_findings path d (Some ds) = item_findings path 0 ds

abbrev pub optional_texts_findings : List ℕ → List ℕ → Members → List Finding
optional_texts_findings path k t =
    optional_list_findings (joined path k) (get_member k t) (list_at k t)

-- what is wrong with a table at a path, or that there is none
abbrev pub table_findings : (List ℕ → Members → List Finding) → List ℕ → Option Members
    → List Finding
table_findings findings path None = at path ∷ []
table_findings findings path (Some t) = findings path t

-- the entries of a table of tables, each by its key and its table
abbrev pub entries_of : {A : Type 0} → (List ℕ → Members → A) → Members → List A
entries_of entry no_members = []
entries_of entry (member k d ms) =
    with_entry (option_map (entry k) (as_table d)) (entries_of entry ms)

abbrev pub entries_findings : (List ℕ → Members → List Finding) → List ℕ → Members → List Finding
entries_findings findings path no_members = []
entries_findings findings path (member k d ms) =
    table_findings findings (joined path k) (as_table d) ++ entries_findings findings path ms

-- the entries at a key of the document, of none where there is no table
abbrev pub section_in : {A : Type 0} → (List ℕ → Members → A) → Option Members → List A
section_in entry None = []
section_in entry (Some ms) = entries_of entry ms

abbrev pub section_in_findings : (List ℕ → Members → List Finding) → List ℕ → Option Data
    → Option Members → List Finding
section_in_findings findings path d None = wrong_kind path d
section_in_findings findings path d (Some ms) = entries_findings findings path ms

abbrev pub table_at : List ℕ → Members → Option Members
table_at k t = option_and_then as_table (get_member k t)

abbrev pub section_of : {A : Type 0} → (List ℕ → Members → A) → List ℕ → Members → List A
section_of entry k t = section_in entry (table_at k t)

abbrev pub section_findings : (List ℕ → Members → List Finding) → List ℕ → Members → List Finding
section_findings findings k t = section_in_findings findings k (get_member k t) (table_at k t)

-- a user has a token
abbrev pub user_of : List ℕ → Members → UserEntry
user_of k t = record { name = k; token = text_of (codes "token") t }

abbrev pub user_findings : List ℕ → Members → List Finding
user_findings path t = unknown_keys User path t ++ text_findings path (codes "token") t

-- a group has members
abbrev pub group_of : List ℕ → Members → GroupEntry
group_of k t = record { name = k; members = texts_of (codes "members") t }

abbrev pub group_findings : List ℕ → Members → List Finding
group_findings path t = unknown_keys Group path t ++ texts_findings path (codes "members") t

-- a role has permissions
abbrev pub role_of : List ℕ → Members → RoleEntry
role_of k t = record { name = k; permissions = texts_of (codes "permissions") t }

abbrev pub role_findings : List ℕ → Members → List Finding
role_findings path t = unknown_keys Role path t ++ texts_findings path (codes "permissions") t

-- a binding has a role and principals
abbrev pub binding_of : List ℕ → Members → BindingEntry
binding_of k t =
    record { role = text_of (codes "role") t; principals = texts_of (codes "principals") t }

abbrev pub binding_findings : List ℕ → Members → List Finding
binding_findings path t =
    unknown_keys Binding path t
    ++ (text_findings path (codes "role") t ++ texts_findings path (codes "principals") t)

-- the bindings in a list of tables
abbrev pub item_bindings : Items → List BindingEntry
item_bindings no_items = []
item_bindings (item d ds) = with_entry (option_map (binding_of []) (as_table d)) (item_bindings ds)

abbrev pub item_bindings_findings : List ℕ → ℕ → Items → List Finding
item_bindings_findings path n no_items = []
item_bindings_findings path n (item d ds) =
    table_findings binding_findings (joined path (decimal n)) (as_table d)
    ++ item_bindings_findings path (n + 1) ds

abbrev pub bindings_in : Option Items → List BindingEntry
bindings_in None = []
bindings_in (Some ds) = item_bindings ds

abbrev pub bindings_in_findings : List ℕ → Option Data → Option Items → List Finding
bindings_in_findings path d None = wrong_kind path d
bindings_in_findings path d (Some ds) = item_bindings_findings path 0 ds

abbrev pub bindings_of : List ℕ → Members → List BindingEntry
bindings_of k t = bindings_in (list_at k t)

abbrev pub bindings_findings : List ℕ → List ℕ → Members → List Finding
bindings_findings path k t = bindings_in_findings (joined path k) (get_member k t) (list_at k t)

-- a realm may extend realms, and may have bindings
abbrev pub realm_of : List ℕ → Members → RealmTable
realm_of k t =
    record {
      name = k;
      extends = texts_of (codes "extends") t;
      bindings = bindings_of
          (codes "bindings") t;
    }

abbrev pub realm_findings : List ℕ → Members → List Finding
realm_findings path t =
    unknown_keys Realm path t
    ++ (optional_texts_findings path (codes "extends") t
    ++ bindings_findings path (codes "bindings") t)

-- the tables of a document
abbrev pub tables_of : Members → PolicyTables
tables_of t = record {
  secret = text_of (codes "secret") t;
  users = section_of user_of (codes "user") t;
  groups = section_of group_of (codes "group") t;
  roles = section_of role_of (codes "role") t;
  realms = section_of realm_of (codes "realm") t;
}

-- each path of a document where a key is absent or unknown, or a value is of the wrong kind
abbrev pub shape_findings : Members → List Finding
shape_findings t =
    unknown_keys Document [] t
    ++ (text_findings [] (codes "secret") t
    ++ (section_findings user_findings (codes "user") t
    ++ (section_findings group_findings (codes "group") t
    ++ (section_findings role_findings (codes "role") t
    ++ section_findings realm_findings (codes "realm") t))))
