mod ListedEntries
