mod Rows
mod Places
